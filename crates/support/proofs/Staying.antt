-- Where each record says what it said, what may be asked may still be asked, and an answer about the records before is one about
-- the records after, and the other way round.
-- Assumes nothing.
use Prim.Native.Nat.{ℕ}
use mathlib.Core.Path.{sym, ◌∙◌}
use mathlib.Core.Bool.{Bool}
use mathlib.Core.List.{List}
use Rattle.std.specs.Prelude.{Result}
use Rattle.support_cache.specs.Nodes.{Unchanged}
use Rattle.support_cache.proofs.Staying.{there, back, command_stays, offset_stays, usage_after}
use Rattle.support.specs.Askable.{Askable, ConcreteAskable}
use Rattle.support.specs.Supported.{Supports, EntrySupported, ItselfSupports, Asked}
use Rattle.support.specs.Cache.{LeftOpen}
use Rattle.support.specs.declared.NotAsked.{NotAsked}
use Rattle.layout.specs.declared.setting.Setting.{Setting as CodeSetting}

module _ {s s' : List ℕ} (U : Unchanged s s') where
  module _ {code : CodeSetting} {ty at q : ℕ} where
    pub supports_after : {r : Bool} → Supports code ty at s q r → Supports code ty at s' q r
    supports_after g = record { is = λ st k b u r lo hi a. g.is st k b u r lo hi (back U u q r lo hi a) }

    pub supports_before : {r : Bool} → Supports code ty at s' q r → Supports code ty at s q r
    supports_before g = record { is = λ st k b u r lo hi a. g.is st k b u r lo hi (there U u q r lo hi a) }

    pub entry_before : {r : Bool} → EntrySupported code ty at s' q r → EntrySupported code ty at s q r
    entry_before g = record { is = λ st k b n d cs l u r lo hi a. rw (← offset_stays U q) (g.is st k b n d cs l u r lo hi (there U u q r lo hi a)) }

    pub itself_before : {r : Bool} → ItselfSupports code ty at s' q r → ItselfSupports code ty at s q r
    itself_before g = record { is = λ st k b n d cs l u r lo hi a. g.is st k b n d cs l u r lo hi (there U u q r lo hi a) }

    pub answers_before : {r : Result Bool NotAsked} → Asked code ty at s' q r → Asked code ty at s q r
    answers_before g = record { is = λ st k b u r lo hi a. g.is st k b u r lo hi (there U u q r lo hi a) }

    pub open_after : LeftOpen code ty at s q → LeftOpen code ty at s' q
    open_after h = record {
      used = λ e. h.used (sym (command_stays U q) ∙ e);
      parts = h.parts;
      components = h.components;
      is = λ st k b u r lo hi a. h.is st k b u r lo hi (back U u q r lo hi a);
    }

  module _ {code : CodeSetting} {ty q : ℕ} where
    abbrev pub asks_after : Askable code ty s q → Askable code ty s' q
    asks_after w = record { type = w.type; usage = usage_after U w.usage }

    pub concrete_after : ConcreteAskable code ty s q → ConcreteAskable code ty s' q
    concrete_after w = record { asks = asks_after w.asks; size = w.size; stride = w.stride; parts = w.parts; layout = w.layout }
