-- Entries in any order are read one after the other, so their counts add up. Entries in order are such entries.
-- Assumes nothing.
use Prim.Native.Nat.{ℕ, zero, suc, ◌+◌, ◌*◌, ◌<◌}
use mathlib.Core.Path.{◌≡◌, refl, sym, ◌∙◌}
use mathlib.Core.List.{List}
use native.Mathlib.Omega.{arith}
use native.Mathlib.Nat.{zero-add}
use lib.Dec.{ltb}
use lib.ListN.{length}
use Rattle.definitions.specs.Usage.{Entries, ◌<+>◌}
use Rattle.definitions.specs.Stream.{broken, read, ◌then◌, number, read_entries, read_node}
use Rattle.definitions.proofs.ReadFuel.{node_takes}
use Rattle.stream.specs.Walk.{each}
use Rattle.stream.proofs.Places.{number_takes}
use Rattle.stream.proofs.Then.{then_read, then_then, then_broken, then_reads, else_reads}

pub each_short : (k : ℕ) (bs : List ℕ) → length bs < 4 * k → each k bs ≡ broken
unfolding each
each_short zero bs h = absurd (omega arith)
each_short (suc k) bs h =
    then_broken (number_takes 4 bs) λ o bs₁ h₁.
    then_broken (node_takes bs₁) λ u bs₂ h₂.
    rw (each_short k bs₂ (omega arith))

pub each_more : (n k : ℕ) (bs : List ℕ) → each (n + k) bs ≡ each n bs then λ es bs₁. each k bs₁ then λ fs rest. read (es <+> fs) rest
unfolding each
each_more zero k bs = rw zero-add (sym (then_read (each k bs)))
each_more (suc n) k bs =
    let is : suc n + k ≡ suc (n + k) = omega arith in
    rw is
    (sym
    (then_then (number 4 bs) _ _ λ o bs₁.
    then_then (read_node bs₁) _ _ λ u bs₂.
    rw (each_more n k bs₂)
    (then_then (each n bs₂) _ _ (λ es bs₃. refl)
    ∙ sym (then_then (each n bs₂) _ _ λ es bs₃. then_then (each k bs₃) _ _ λ fs rest. refl))))

pub entries_loose : (k p : ℕ) (bs : List ℕ) {es : Entries} {rest : List ℕ} → read_entries read_node k p bs ≡ read es rest → each k bs ≡ read es rest
unfolding each
entries_loose zero p bs e = e
entries_loose (suc k) p bs e =
    let a = then_reads (number 4 bs) e in
    let b = then_reads (read_node a.1) (else_reads (ltb a.0 p) a.3) in
    let d = then_reads (read_entries read_node k (suc a.0) b.1) b.3 in
    rw (a.2, b.2, entries_loose k (suc a.0) b.1 d.2) d.3
