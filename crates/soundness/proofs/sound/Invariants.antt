-- `soundness::sound` meets its contract. The loop's invariant: all that is left from record i on is sound exactly if the usage is.
use Rattle.soundness.proofs.Every.{Every}
use Rattle.soundness.proofs.sound.Given as goal

abbrev pub invariant-loop-i : goal.invariant-loop-i
invariant-loop-i l = Every l.s l.q l.to l.i
