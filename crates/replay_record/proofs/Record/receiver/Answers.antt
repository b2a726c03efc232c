-- `Record::receiver` meets its contract: the part that is handed back is the one that the number says.
use borrow.Author.Tests.{eqb-true}
use mathlib.Core.Path.{◌≡◌, sym, ◌∙◌}
use Rattle.std.proofs.lemmas.Bool.Decides.{Decides-eqb}
use Rattle.std.proofs.lemmas.Slice.Eq.{slice_eq-Decides}
use Rattle.replay_record.specs.Agrees.{nobody, the_first, the_second}
use Rattle.std.proofs.lemmas.List.{nil_from_length}
use Rattle.replay_record.proofs.Agreeing.{handed}
use Rattle.replay_record.proofs.Record.receiver.Goals as goal

pub returns-in-0 : goal.returns-in-0
returns-in-0 c = λ e.
    handed _ c.choices.ensures _ _ c.get32.ensures c.receiver-got.ensures (rw (c.in-0.is, nil_from_length _ (eqb-true _ _ (sym c.is_empty.ensures ∙ e))) nobody)

pub returns-in-1 : goal.returns-in-1
returns-in-1 c = λ e.
    let same : c.receiver-got.result.now ≡ c.args.self.now.parts.first.now = (slice_eq-Decides Decides-eqb _ _ _ c.eq.ensures).0 e in
    handed _ c.choices.ensures _ _ c.get32.ensures c.receiver-got.ensures (rw (c.in-1.is, same) the_first)

pub returns-in-2 : goal.returns-in-2
returns-in-2 c = λ e.
    let same : c.receiver-got.result.now ≡ c.args.self.now.parts.second.now = (slice_eq-Decides Decides-eqb _ _ _ c.eq-in-2.ensures).0 e in
    handed _ c.choices.ensures _ _ c.get32.ensures c.receiver-got.ensures (rw (c.in-2.is, same) the_second)
