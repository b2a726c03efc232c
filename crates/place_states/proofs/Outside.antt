-- What stands outside of the pair is of the kind that the state's rule says, since each kind names its rule.
-- Assumes nothing.
use Rattle.std.proofs.Common.{◌≡◌, ℕ, List}
use Rattle.definitions.specs.Usage.{Size, Usage, Entries}
use Rattle.report.specs.declared.Report.{Report}
use Rattle.place_states.specs.Calls.{Ground}
use Rattle.place_states.specs.Continuation.{Continuation, entries, element, joins}
use Rattle.place_states.specs.States.{Outside, SoFar, Waiting}
use Rattle.place_states.specs.declared.State.{State}
use Rattle.place_states.specs.declared.Rule.TheVariants.{Entries as ByEntries, Element as ByElement}

pub data IsEntries : Continuation → Type 0 where
  is_entries : (es : Entries) → IsEntries (entries es)

pub data IsElement : Continuation → Type 0 where
  is_element : (z : Size) (n : ℕ) → IsElement (element z n)

module _ (k : ℕ) (s : List ℕ) (a : ℕ) (st : State) (r : ℕ → ℕ) (lo c e hi : ℕ) where
  outside_entries : (y : Continuation) → st.rule ≡ ByEntries → Outside k y s a st r lo c e hi → IsEntries y
  unfolding Outside
  outside_entries (entries es) is h = is_entries es
  outside_entries (element z n) is h = let e = h.rule in absurd (cc)
  outside_entries (joins z low mid high d) is h = let e = h.rule in absurd (cc)

  outside_element : (y : Continuation) → st.rule ≡ ByElement → Outside k y s a st r lo c e hi → IsElement y
  unfolding Outside
  outside_element (entries es) is h = let e = h.rule in absurd (cc)
  outside_element (element z n) is h = is_element z n
  outside_element (joins z low mid high d) is h = let e = h.rule in absurd (cc)

module _ {k : ℕ} {y : Continuation} {u : Usage} {w : List ℕ} {p : ℕ} {g : Ground} {s : List ℕ} {rep : Report} {a : ℕ} {st : State} (S : SoFar k y u w p g s rep a st) where
  pub standing_entries : st.rule ≡ ByEntries → IsEntries y
  standing_entries is = outside_entries k s a st S.rank g.lo S.c S.e g.hi y is S.outside

  pub standing_element : st.rule ≡ ByElement → IsElement y
  standing_element is = outside_element k s a st S.rank g.lo S.c S.e g.hi y is S.outside

module _ {s : List ℕ} {a : ℕ} {st : State} (W : Waiting s a st) where
  pub waiting_entries : st.rule ≡ ByEntries → IsEntries W.y
  waiting_entries is = outside_entries W.k s a st W.rank W.lo W.c W.e W.hi W.y is W.outside

  pub waiting_element : st.rule ≡ ByElement → IsElement W.y
  waiting_element is = outside_element W.k s a st W.rank W.lo W.c W.e W.hi W.y is W.outside
