-- What a whole record says, by its kind.
-- Assumes nothing.
use Prim.Native.Nat.{ℕ, ◌+◌, ◌*◌, ◌≤◌, ◌<◌}
use native.Mathlib.Omega.{arith}
use mathlib.Core.Path.{◌≡◌, refl, sym, ◌∙◌}
use mathlib.Core.List.{List}
use lib.ListN.{length, get_or, drop}
use Rattle.definitions.specs.Stream.{read}
use Rattle.definitions.specs.Table.{TypeLayout as Layout, read_layout}
use Rattle.numbers.specs.Words.{number_at, word}
use Rattle.layout.specs.Values.{layout_in, Formed, Whole, Reads}
use Rattle.layout.specs.declared.table.Array.{Array}
use Rattle.layout.specs.declared.table.Components.TheVariants.{Scalar, Elements, Fields}
use Rattle.layout.specs.declared.table.FieldList.{FieldList}
use Rattle.layout.specs.declared.table.TypeLayout.{TypeLayout}
use Rattle.layout.specs.declared.table.TypeLayout.TheVariants.{Concrete, Handle, Failed}
use Rattle.layout.proofs.Ends.{handle_read, failed_read, scalar_read, elements_read, list_read}
use Rattle.layout.proofs.View.{each_kind}

-- the bytes that a record of each kind has
abbrev pub Held : List ℕ → ℕ → Type 0
Held s p =
    (p < length s)
    × (0x20 ≤ get_or s p 0)
    × (get_or s p 0 ≤ 0x24)
    × (get_or s p 0 < 0x23 → p + 9 ≤ length s)
    × (get_or s p 0 ≡ 0x21 → p + 21 ≤ length s)
    × (get_or s p 0 ≡ 0x21 → 0 < word s (p + 9))
    × (get_or s p 0 ≡ 0x22 → p + (11 + number_at 2 s (p + 9) * 8) ≤ length s)
    × (get_or s p 0 ≡ 0x22 → number_at 2 s (p + 9) ≤ 64)

pub held : {s : List ℕ} {p : ℕ} → Whole s p → Held s p
held {s} {p} w = each_kind s p (λ l. Held s p) (omega arith) (omega arith) (omega arith) (omega arith) (omega arith) _ _ w.stands

-- the record that is read is the only one
reads : {s : List ℕ} {p : ℕ} {l : Layout} {rest : List ℕ} {r : TypeLayout} → Formed s r → layout_in s r ≡ l → read_layout (drop p s) ≡ read l rest → Reads s p r
reads {l = l} {rest} f e x = record {
  formed = f;
  is = λ l' rest' y.
      let z : read l rest ≡ read l' rest' = sym x ∙ y in
      let u : l ≡ l' = cc in
      e ∙ u;
}

module _ {s : List ℕ} {p : ℕ} (w : Whole s p) where
  pub reads_handle : get_or s p 0 ≡ 0x23 → Reads s p Handle
  reads_handle k = let h = held w in reads tt refl (handle_read s p (omega arith) k)

  pub reads_failed : get_or s p 0 ≡ 0x24 → Reads s p Failed
  reads_failed k = let h = held w in reads tt refl (failed_read s p (omega arith) k)

  pub reads_scalar : {r : TypeLayout} → get_or s p 0 ≡ 0x20 → r ≡ Concrete (word s (p + 1)) (word s (p + 5)) Scalar → Reads s p r
  reads_scalar k e = let h = held w in rw e (reads tt refl (scalar_read s p (omega arith) k))

  pub reads_elements : {r : TypeLayout} (a : Array) → get_or s p 0 ≡ 0x21 →
      (a.stride ≡ word s (p + 9)) × (a.elem ≡ word s (p + 9 + 4)) × (a.len ≡ word s (p + 9 + 8)) →
      r ≡ Concrete (word s (p + 1)) (word s (p + 5)) (Elements a) → Reads s p r
  reads_elements a k (x, y, z) e =
      let h = held w in
      let i : p + 9 + 4 ≡ p + 13 = omega arith in
      let j : p + 9 + 8 ≡ p + 17 = omega arith in
      rw e (reads (omega arith) (rw (x, y, z, i, j)) (elements_read s p (omega arith) k (omega arith)))

  -- the kind that is left
  pub reads_fields : {r : TypeLayout} (fs : FieldList) →
      (get_or s p 0 ≡ 0x20 → ⊥) → (get_or s p 0 ≡ 0x21 → ⊥) → (get_or s p 0 ≡ 0x23 → ⊥) → (get_or s p 0 ≡ 0x24 → ⊥) →
      (fs.at ≡ p + 9 + 2) × (fs.count ≡ number_at 2 s (p + 9)) → r ≡ Concrete (word s (p + 1)) (word s (p + 5)) (Fields fs) → Reads s p r
  reads_fields fs n₀ n₁ n₃ n₄ (x, y) e =
      let h = held w in
      let i : p + 9 + 2 ≡ p + 11 = omega arith in
      rw e (reads (omega arith) (rw (x, i)) (list_read s p fs.count y (omega arith) (omega arith) (omega arith)))
