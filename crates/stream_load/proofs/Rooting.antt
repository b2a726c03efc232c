-- A root is linked to what lies below it, which its command and its argument tell; its own record alone changes, and what lies below
-- stands as it did.
-- Assumes nothing.
use Prim.Native.Nat.{ℕ, suc, ◌+◌, ◌*◌, ◌-◌, ◌<◌, ◌≤◌}
use mathlib.Core.Path.{◌≡◌, refl, ap, sym, ◌∙◌, subst}
use mathlib.Core.List.{List}
use native.Mathlib.Omega.{arith}
use native.Mathlib.Numerals.{add-one}
use lib.ListN.{length}
use Rattle.definitions.specs.Usage.{Size, Usage, unused, leaf, map, array, Entries, none, nodes, nodes_in, count}
use Rattle.definitions.specs.Command.{head_of}
use Rattle.definitions.proofs.Nodes.{some_node}
use Rattle.qptr.specs.declared.Kind.{Kind}
use Rattle.qptr.specs.declared.Kind.TheVariants.{OffsetBase, DynOffsetBase}
use Rattle.qptr.specs.Values.{kind_of}
use Rattle.qptr.proofs.Nodes.{map_command, array_command}
use Rattle.records.specs.Records.{command_in, count_in, argument_in, Cell, cell, with_next, with_child, with_count, with_argument, full, Set}
use Rattle.records.proofs.Writing.{set_again}
use Rattle.stream_load.specs.Loading.{Bare, first_of, Linked, EntriesLinked, Apart, EntriesTied, Ripe, RipeAt, Tied}
use Rattle.qptr.proofs.Usages.{is_map, AnArray, is_array}
use Rattle.stream_load.proofs.Linked.{linked_with, entries_move, count_is}
use Rattle.stream_load.proofs.Tying.{no_entry, first_some}

-- what a map's root says
record MapAt (s : List ℕ) (q k : ℕ) (u : Usage) (o : ℕ) : Type 0 where
  size : Size
  entries : Entries
  same : u ≡ map size entries
  root : Bare (map size entries) s q o
  below : Apart entries s (q + 1)
  many : count entries ≡ k

module _ (s : List ℕ) (q : ℕ) {c : Kind} (kind : c ≡ kind_of (command_in s q)) where
  kind_of_root : (u : Usage) (o : ℕ) → Bare u s q o → c ≡ kind_of (head_of u).command
  kind_of_root u o b = kind ∙ ap (λ (x : Cell). kind_of x.command) b

  module _ {k : ℕ} (holds_entries : c ≡ OffsetBase) (argument : k ≡ argument_in s q) where
    map_at : (u : Usage) (o : ℕ) → Ripe u s q o → MapAt s q k u o
    map_at u o R =
        let M = is_map u (map_command (kind_of_root u o R.root) holds_entries) in
        let R' : Ripe (map M.size M.entries) s q o = subst (λ (x : Usage). Ripe x s q o) M.same R in
        record {
          size = M.size;
          entries = M.entries;
          same = M.same;
          root = R'.root;
          below = rw add-one R'.below;
          many = sym (argument ∙ ap (λ (x : Cell). x.argument) R'.root);
        }

    pub none_tied : k ≡ 0 → Tied s q s
    unfolding Linked
    none_tied zero = record {
      linked = λ u o R.
          let M = map_at u o R in
          let empty : M.entries ≡ none = no_entry M.entries (M.many ∙ zero) in
          let same : u ≡ map M.size none = M.same ∙ ap (map M.size) empty in
          let root : Bare (map M.size none) s q o = subst (λ (x : Usage). Bare x s q o) same R.root in
          subst (λ (x : Usage). Linked x s q o) (sym same) (ap (with_next 0) root, tt);
      next = λ u o R. ap (λ (x : Cell). x.next) R.root;
      kept = λ u o R j out. refl;
    }

    module _ (s₁ s₂ s₃ s₄ : List ℕ) {e : ℕ} (some : k ≡ 0 → ⊥) (T : EntriesTied s (q + 1) k s₁ e) (A : Set s₁ s₂ q (with_child (q + 1) (cell s₁ q)))
        (B : Set s₂ s₃ q (with_argument 0 (cell s₂ q))) (C : Set s₃ s₄ q (with_count (e - q) (cell s₃ q))) where
      set_root : Set s₁ s₄ q (with_count (e - q) (with_argument 0 (with_child (q + 1) (cell s₁ q))))
      set_root = set_again s₁ s₃ s₄ q (with_argument 0 (with_child (q + 1) (cell s₁ q))) (with_count (e - q)) (set_again s₁ s₂ s₃ q (with_child (q + 1) (cell s₁ q)) (with_argument 0) A B) C

      root_is : (u : Usage) (o : ℕ) (M : MapAt s q k u o) → cell s₄ q ≡ full 3 0 (q + 1) (e - q) M.size 0 o
      root_is u o M =
          let same : cell s₁ q ≡ cell s q = T.kept M.entries M.below M.many q (λ a b. omega arith) in
          set_root.here ∙ ap (λ (x : Cell). with_count (e - q) (with_argument 0 (with_child (q + 1) x))) (same ∙ M.root)

      map_linked : (u : Usage) (o : ℕ) → MapAt s q k u o → Linked u s₄ q o
      unfolding Linked
      map_linked u o M =
          let es : Entries = M.entries in
          let S = set_root in
          let first : q + 1 ≡ first_of es (suc q) = rw (first_some es (suc q) (omega (arith, M.many))) (add-one q) in
          let total : e - q ≡ suc (nodes_in es) = omega (arith, T.behind es M.below M.many) in
          let root : with_next 0 (cell s₄ q) ≡ full 3 0 (q + 1) (e - q) M.size 0 o = ap (with_next 0) (root_is u o M) in
          let below : EntriesLinked es s₄ (q + 1) = entries_move es s₁ s₄ (q + 1) (λ j a b. S.others j (omega arith)) (T.linked es M.below M.many) in
          subst (λ (x : Usage). Linked x s₄ q o) (sym M.same)
          (root ∙ cc, rw add-one at below)

      pub map_tied : Tied s q s₄
      map_tied = record {
        linked = λ u o R. map_linked u o (map_at u o R);
        next = λ u o R. ap (λ (x : Cell). x.next) (root_is u o (map_at u o R));
        kept = λ u o R j out.
            let M = map_at u o R in
            let S = set_root in
            S.others j (λ e. out (omega arith) (omega (arith, some_node u))) ∙ T.kept M.entries M.below M.many j (λ a b. out (omega arith) (omega (arith, ap nodes M.same)));
      }

  module _ (holds_element : c ≡ DynOffsetBase) where
    array_at : (u : Usage) (o : ℕ) → Ripe u s q o → (A : AnArray u) × Ripe (array A.size A.stride A.element) s q o
    array_at u o R =
        let A = is_array u (array_command (kind_of_root u o R.root) holds_element) in
        (A, subst (λ (x : Usage). Ripe x s q o) A.same R)

    element_nodes : (u : Usage) (o : ℕ) → Ripe u s q o → (1 ≤ count_in s (q + 1)) × (nodes u ≡ 1 + count_in s (q + 1))
    element_nodes u o R =
        let A = array_at u o R in
        let e : count_in s (q + 1) ≡ nodes A.0.element = rw add-one (count_is A.0.element s (suc q) 0 A.1.below) in
        (omega (arith, some_node A.0.element), omega (arith, ap nodes A.0.same))

    pub element_inside : RipeAt s q → (q + 1) * 32 + 32 ≤ length s
    element_inside R = let E = element_nodes R.usage R.offset R.ripe in omega (arith, E.0, E.1, R.inside)

    pub element_few : RipeAt s q → q + 1 < 65536
    element_few R = let E = element_nodes R.usage R.offset R.ripe in omega (arith, E.0, E.1, R.few)

    pub few_nodes : RipeAt s q → {n : ℕ} → n ≡ count_in s (q + 1) → 1 + n < 4294967296
    few_nodes R e = omega (arith, (element_nodes R.usage R.offset R.ripe).1, R.few)

    module _ (s₁ s₂ : List ℕ) {n : ℕ} (counted : n ≡ count_in s (q + 1)) (A : Set s s₁ q (with_child (q + 1) (cell s q))) (B : Set s₁ s₂ q (with_count (1 + n) (cell s₁ q))) where
      pub array_tied : Tied s q s₂
      unfolding Linked
      array_tied =
          let S : Set s s₂ q (with_count (1 + n) (with_child (q + 1) (cell s q))) = set_again s s₁ s₂ q (with_child (q + 1) (cell s q)) (with_count (1 + n)) A B in
          record {
            linked = λ u o R.
                let X = array_at u o R in
                let x : Usage = X.0.element in
                let total : 1 + n ≡ suc (nodes x) = omega (arith, (element_nodes u o R).1, ap nodes X.0.same) in
                let root : with_next 0 (cell s₂ q) ≡ full 4 0 (q + 1) (1 + n) X.0.size X.0.stride o =
                ap (with_next 0) (S.here ∙ ap (λ (y : Cell). with_count (1 + n) (with_child (q + 1) y)) X.1.root) in
                let ahead : q + 1 ≡ suc q = add-one q in
                subst (λ (y : Usage). Linked y s₂ q o) (sym X.0.same)
                (root ∙ cc, linked_with x s s₂ (suc q) 0 (ap (with_next 0) (S.others (suc q) (omega arith))) (λ j a b. S.others j (omega arith)) X.1.below);
            next = λ u o R. ap (λ (x : Cell). x.next) (S.here ∙ ap (λ (y : Cell). with_count (1 + n) (with_child (q + 1) y)) R.root);
            kept = λ u o R j out. S.others j (λ e. out (omega arith) (omega (arith, some_node u)));
          }

  leaf_linked : (u : Usage) (o : ℕ) → (c ≡ OffsetBase → ⊥) → (c ≡ DynOffsetBase → ⊥) → Ripe u s q o → Linked u s q o
  unfolding Linked
  leaf_linked (unused z) o n₃ n₄ R = ap (with_next 0) R.root
  leaf_linked (leaf z k t) o n₃ n₄ R = ap (with_next 0) R.root
  leaf_linked (map z es) o n₃ n₄ R = absurd (n₃ (kind_of_root (map z es) o R.root))
  leaf_linked (array z n x) o n₃ n₄ R = absurd (n₄ (kind_of_root (array z n x) o R.root))

  pub leaf_tied : (c ≡ OffsetBase → ⊥) → (c ≡ DynOffsetBase → ⊥) → Tied s q s
  leaf_tied n₃ n₄ = record { linked = λ u o R. leaf_linked u o n₃ n₄ R; next = λ u o R. ap (λ (x : Cell). x.next) R.root; kept = λ u o R j out. refl }
