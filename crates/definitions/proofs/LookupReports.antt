-- The lookup changes reports alone: whatever is placed, merged or folded, refusals 8 and 9, usage and pairings are the same under both, and the
-- report is no shorter under the stricter.
-- Assumes nothing.
use Prim.Native.Nat.{ℕ, zero, suc, ◌+◌, ◌-◌, ◌%◌, ◌≤◌}
use mathlib.Core.Path.{◌≡◌, refl}
use mathlib.Core.Bool.{Bool, true, false, ◌||◌}
use mathlib.Core.List.{List, [], ◌∷◌, ◌++◌}
use mathlib.Core.Option.{Option, none as nothing, some}
use native.Mathlib.Omega.{arith}
use lib.ListN.{length, length-append}
use lib.Dec.{ltb, eqb}
use Rattle.definitions.specs.If.{when◌then◌else◌}
use Rattle.definitions.specs.Usage.{Size, Usage, unused, leaf, map, array, Entries, none, entry, size, nodes, Top, opaque, buffer, memory, Nodes}
use Rattle.definitions.specs.Table.{Table, Field, Components, scalar, elements, fields, TypeLayout, concrete, handle, failed, Setting, layout_of}
use Rattle.definitions.specs.Containment.{Inside, in_element, in_fields, containing, end_of}
use Rattle.definitions.specs.Support.{Asking, any_of, supports_in, supports, support_rules}
use Rattle.definitions.specs.Place
use Rattle.definitions.specs.Place.{Result, refused, done, Joining, barred, straddled, joined, Overlapping, past, searching, stopped, Kept}
use Rattle.definitions.specs.Requests.Choices.{Choices}
use Rattle.definitions.proofs.Choice.{either, by_test}
use Rattle.definitions.proofs.Lookup.{StartsAtLength, lookup_elsewhere, supports_less}

-- the same refusal; or the same but for the report, which is no shorter on the other side
pub data Alike {A : Type 0} : Result A → Result A → Type 0 where
  both_refused : (k : ℕ) → Alike (refused k) (refused k)
  both_done : (a : A) (w w' : List ℕ) (p : ℕ) → length w ≤ length w' → Alike (done a w p) (done a w' p)

data JoinAlike : Joining → Joining → Type 0 where
  both_barred : (k : ℕ) → JoinAlike (barred k) (barred k)
  both_straddled : (es : Entries) (w : List ℕ) (p : ℕ) → JoinAlike (straddled es w p) (straddled es w p)
  both_joined : (d : ℕ) (b : Usage) (w w' : List ℕ) (p : ℕ) → length w ≤ length w' → JoinAlike (joined d b w p) (joined d b w' p)

alike_refl : {A : Type 0} (x : Result A) → Alike x x
alike_refl (refused k) = both_refused k
alike_refl (done a w p) = both_done a w w p (omega arith)

-- headings, and what came before, make the longer report no shorter

both_longer : (w w' v v' : List ℕ) → length w ≤ length w' → length v ≤ length v' → length (w ++ v) ≤ length (w' ++ v')
both_longer w w' v v' h l = rw (length-append w v, length-append w' v') (omega (arith, h, l))

entry_longer : (o : ℕ) (w w' : List ℕ) → length w ≤ length w' → length (Place.of_entry o w) ≤ length (Place.of_entry o w')
entry_longer o [] w' h = omega arith
entry_longer o (x ∷ w) [] h = absurd (omega (arith, h))
entry_longer o (x ∷ w) (y ∷ w') h = omega (arith, h)

node_longer : (i : ℕ) (w w' : List ℕ) → length w ≤ length w' → length (Place.of_node i w) ≤ length (Place.of_node i w')
node_longer i [] w' h = omega arith
node_longer i (x ∷ w) [] h = absurd (omega (arith, h))
node_longer i (x ∷ w) (y ∷ w') h = omega (arith, h)

rule_longer : (w w' : List ℕ) → length w ≤ length w' → length (Place.of_rule w) ≤ length (Place.of_rule w')
rule_longer [] w' h = omega arith
rule_longer (x ∷ w) [] h = absurd (omega (arith, h))
rule_longer (x ∷ w) (y ∷ w') h = omega (arith, h)

under_alike : {A B : Type 0} {x y : Result A} (f : A → B) → Alike x y → Alike (Place.under f x) (Place.under f y)
under_alike f (both_refused k) = both_refused k
under_alike f (both_done a w w' p h) = both_done (f a) w w' p h

headed_alike : {A : Type 0} {x y : Result A} → Alike x y → Alike (Place.headed x) (Place.headed y)
headed_alike (both_refused k) = both_refused k
headed_alike (both_done a w w' p h) = both_done a _ _ p (rule_longer w w' h)

after_alike : {A : Type 0} {x y : Result A} (w w' : List ℕ) (p : ℕ) → length w ≤ length w' → Alike x y → Alike (Place.after w p x) (Place.after w' p y)
after_alike w w' p h (both_refused k) = both_refused k
after_alike w w' p h (both_done a v v' q l) = both_done a _ _ (p + q) (both_longer w w' v v' h l)

then_alike : {A B : Type 0} {x y : Result A} {f g : A → Result B} (mark : List ℕ → List ℕ)
    → ((w w' : List ℕ) → length w ≤ length w' → length (mark w) ≤ length (mark w')) → Alike x y → ((a : A) → Alike (f a) (g a))
    → Alike (Place.and_then mark x f) (Place.and_then mark y g)
then_alike mark longer (both_refused k) on = both_refused k
then_alike mark longer (both_done a w w' p h) on = after_alike (mark w) (mark w') p (longer w w' h) (on a)

unless_alike : {A : Type 0} {x y : Result A} (k : ℕ) → Alike x y → Alike (Place.unless_refused k x) (Place.unless_refused k y)
unless_alike zero h = h
unless_alike (suc k) h = both_refused (suc k)

joined_alike : {x y : Result Usage} (d o : ℕ) (w w' : List ℕ) (p : ℕ) → length w ≤ length w' → Alike x y
    → JoinAlike (Place.joined_at d o w p x) (Place.joined_at d o w' p y)
joined_alike d o w w' p h (both_refused k) = both_barred k
joined_alike d o w w' p h (both_done a v v' q l) = both_joined d a _ _ (p + q) (both_longer w w' _ _ h (entry_longer o v v' l))

rebuilt_alike : {i j : Joining} (s : Size) (low high : Entries) → JoinAlike i j → Alike (Place.rebuilt s low high i) (Place.rebuilt s low high j)
rebuilt_alike s low high (both_barred k) = both_refused k
rebuilt_alike s low high (both_straddled es w p) = both_done _ w w p (omega arith)
rebuilt_alike s low high (both_joined d b w w' p h) = both_done _ _ _ p (rule_longer w w' h)

-- At offset 0 no component is asked at another offset, so a leaf there meets no array at its length.

abbrev AtZero : List Inside → Type 0
AtZero [] = Unit {0}
AtZero (c ∷ cs) = (c.rest ≡ 0) × AtZero cs

starts_below : (cs : Components) → StartsAtLength cs 0 → ⊥
starts_below scalar h = h
starts_below (elements stride ty len) h = omega (arith, h.0, h.1)
starts_below (fields fs) h = h

element_at_zero : (c : Inside) (start e : ℕ) (n : Option ℕ) → c.rest ≡ 0 → AtZero (in_element c start e n)
element_at_zero c start e nothing h = tt
element_at_zero c start e (some n) h = either AtZero _ (h, tt) tt

fields_at_zero : (st : Setting) (fs : List Field) (e : ℕ) → AtZero (in_fields st fs 0 e)
fields_at_zero st [] e = tt
fields_at_zero st (f ∷ fs) e =
    let more = fields_at_zero st fs e in
    either AtZero _ (omega arith, more) more

containing_at_zero : (st : Setting) (cs : Components) (e : ℕ) → AtZero (containing st cs 0 e)
containing_at_zero st scalar e = tt
containing_at_zero st (elements stride ty len) e = element_at_zero _ _ e _ (omega arith)
containing_at_zero st (fields fs) e = fields_at_zero st fs e

module _ (t : Table) (ch ch' : Choices) (stricter : ch.strict_lookup ≡ true → ch'.strict_lookup ≡ true) where
  abbrev one : Setting
  one = record { table = t; choices = ch }

  abbrev other : Setting
  other = record { table = t; choices = ch' }

  module _ (s : Size) (k : Bool) (c : ℕ) where
    any_same : (f g : Asking) (cs : List Inside) → ((ty : ℕ) → f ty 0 (leaf s k c) ≡ g ty 0 (leaf s k c)) → AtZero cs
        → any_of f cs (leaf s k c) ≡ any_of g cs (leaf s k c)
    any_same f g [] same h = refl
    any_same f g (x ∷ xs) same h = rw (h.0, same x.type, any_same f g xs same h.1) refl

    rules_same : (f g : Asking) → ((ty : ℕ) → f ty 0 (leaf s k c) ≡ g ty 0 (leaf s k c)) → (ty : ℕ) (l : TypeLayout)
        → support_rules one f ty l 0 (leaf s k c) ≡ support_rules other g ty l 0 (leaf s k c)
    rules_same f g same ty handle = refl
    rules_same f g same ty failed = refl
    rules_same f g same ty (concrete n d cs) =
        let e = end_of 0 s in
        rw (lookup_elsewhere t ch ch' cs 0 e (starts_below cs), any_same f g (containing other cs 0 e) same (containing_at_zero other cs e)) refl

    fuel_same : (n ty : ℕ) → supports_in one n ty 0 (leaf s k c) ≡ supports_in other n ty 0 (leaf s k c)
    unfolding supports_in
    fuel_same zero ty = refl
    fuel_same (suc n) ty = rules_same (supports_in one n) (supports_in other n) (fuel_same n) ty (layout_of t ty)

    support_same : (ty : ℕ) → supports one ty 0 (leaf s k c) ≡ supports other ty 0 (leaf s k c)
    unfolding supports
    support_same ty = fuel_same (ty + 1) ty

    asked_same : (ty : ℕ) (x y : Kept) → x ≡ y → Place.asked one ty 0 (leaf s k c) x ≡ Place.asked other ty 0 (leaf s k c) y
    asked_same ty x y e = go (layout_of t ty) refl
      where
        go : (l : TypeLayout) → layout_of t ty ≡ l → Place.asked one ty 0 (leaf s k c) x ≡ Place.asked other ty 0 (leaf s k c) y
        go (concrete n d cs) is = rw (is, Place.asked, support_same ty, e) refl
        go handle is = rw (is, Place.asked) refl
        go failed is = rw (is, Place.asked) refl

  -- Rule 4: a's type is kept whatever is answered, and 32 is told where a stricter lookup says no; unless b is a leaf at 0, of which both types
  -- are asked at 0.

  abbrev KeptAlike : Kept → Kept → Type 0
  KeptAlike x y = (x.type ≡ y.type) × (length x.report ≤ length y.report)

  abbrev quiet : ℕ → Kept
  quiet ty = record { type = ty; report = [] }

  abbrev told : ℕ → Kept
  told ty = record { type = ty; report = Place.type_conflict }

  own_alike : (ty d : ℕ) (b : Usage) → KeptAlike (Place.asked one ty d b (told ty)) (Place.asked other ty d b (told ty))
  unfolding when◌then◌else◌
  own_alike ty d b = go (layout_of t ty) refl
    where
      by_answer : (c e : Bool) → (e ≡ true → c ≡ true) → KeptAlike (when c then quiet ty else told ty) (when e then quiet ty else told ty)
      by_answer true true h = (refl, omega arith)
      by_answer true false h = (refl, omega arith)
      by_answer false true h = cc (h refl)
      by_answer false false h = (refl, omega arith)

      go : (l : TypeLayout) → layout_of t ty ≡ l → KeptAlike (Place.asked one ty d b (told ty)) (Place.asked other ty d b (told ty))
      go (concrete n z cs) is = rw (is, Place.asked) (by_answer _ _ (supports_less t ch' ch stricter ty d b))
      go handle is = rw (is, Place.asked) (refl, omega arith)
      go failed is = rw (is, Place.asked) (refl, omega arith)

  equal_alike : {x y : Kept} → x ≡ y → KeptAlike x y
  equal_alike e = rw e (refl, omega arith)

  kept_alike : (s : Size) (k : Bool) (ty d : ℕ) (b : Usage)
      → KeptAlike (Place.kept_type one (leaf s k ty) ty d b (Place.type_at_zero d b)) (Place.kept_type other (leaf s k ty) ty d b (Place.type_at_zero d b))
  kept_alike s k ty (suc d) b = own_alike ty (suc d) b
  kept_alike s k ty zero (unused z) = own_alike ty 0 (unused z)
  kept_alike s k ty zero (map z es) = own_alike ty 0 (map z es)
  kept_alike s k ty zero (array z n e) = own_alike ty 0 (array z n e)
  kept_alike s k ty zero (leaf z m c) =
      equal_alike (by_test (◌≡◌ {A = Kept}) (eqb c ty) refl (asked_same z m c ty _ _ (asked_same s k ty c _ _ refl)))

  leaf_alike : (s : Size) (k : Bool) (ty d : ℕ) (b : Usage) → Alike (Place.place_in_leaf one s k ty d b) (Place.place_in_leaf other s k ty d b)
  leaf_alike s k ty d b = go _ _ (kept_alike s k ty d b)
    where
      go : (x y : Kept) → KeptAlike x y
          → Alike (done (leaf s (k || Place.is_strict b) x.type) x.report 0) (done (leaf s (k || Place.is_strict b) y.type) y.report 0)
      go x y h = rw h.0 (both_done _ _ _ _ h.1)

  module _ (f g : Place.Placing) (alike : (a : Usage) (d : ℕ) (b : Usage) → Alike (f a d b) (g a d b)) (ties : ch.ties_to_first ≡ ch'.ties_to_first) where
    merge_alike : (a b : Usage) → Alike (Place.merge_by one f a b) (Place.merge_by other g a b)
    merge_alike a b = rw ties (by_test Alike _ (alike a 0 b) (alike b 0 a))

    entries_alike : (a : Usage) (es : Entries) → Alike (Place.place_entries one f a es) (Place.place_entries other g a es)
    entries_alike a none = alike_refl _
    entries_alike a (entry o u es) = then_alike (Place.of_entry o) (entry_longer o) (alike a o u) (λ last. entries_alike last es)

    element_alike : (e : Usage) (r : ℕ) (b : Usage) → Alike (Place.place_in_element one f e r b) (Place.place_in_element other g e r b)
    element_alike e zero b = merge_alike e b
    element_alike e (suc r) b = alike e (suc r) b

    elements_alike : (s : Size) (stride : ℕ) (e : Usage) (x : Option Usage)
        → Alike (Place.merge_elements one f s stride e x) (Place.merge_elements other g s stride e x)
    elements_alike s stride e nothing = alike_refl _
    elements_alike s stride e (some x) = under_alike _ (merge_alike e x)

    join_entry_alike : (o : ℕ) (u : Usage) (d : ℕ) (b : Usage) (w w' : List ℕ) (p : ℕ) → length w ≤ length w'
        → JoinAlike (Place.join_entry one f o u d b w p) (Place.join_entry other g o u d b w' p)
    join_entry_alike o u d b w w' p h =
        by_test JoinAlike (eqb o d) (joined_alike d o w w' p h (merge_alike b u))
        (by_test JoinAlike (ltb o d)
        (by_test JoinAlike _ (joined_alike o o w w' p h (alike u (d - o) b)) (both_straddled _ _ p))
        (by_test JoinAlike _ (joined_alike d o w w' p h (alike b (o - d) u)) (both_straddled _ _ p)))

    join_next_alike : {i j : Joining} (o : ℕ) (u : Usage) → JoinAlike i j → JoinAlike (Place.join_next one f o u i) (Place.join_next other g o u j)
    join_next_alike o u (both_barred k) = both_barred k
    join_next_alike o u (both_straddled es w p) = both_straddled _ w p
    join_next_alike o u (both_joined d b w w' p h) = join_entry_alike o u d b w w' p h

    join_alike : (es : Entries) (d : ℕ) (b : Usage) → JoinAlike (Place.join one f es d b) (Place.join other g es d b)
    join_alike none d b = both_joined d b [] [] 0 (omega arith)
    join_alike (entry o u es) d b = join_next_alike o u (join_alike es d b)

    found_alike : (s : Size) (d : ℕ) (b : Usage) (x : Overlapping) → Alike (Place.join_found one f s d b x) (Place.join_found other g s d b x)
    found_alike s d b past = both_refused 9
    found_alike s d b (searching mid high) = rebuilt_alike s none high (join_alike mid d b)
    found_alike s d b (stopped low mid high) = rebuilt_alike s low high (join_alike mid d b)

    kind_alike : (a : Usage) (d : ℕ) (b : Usage) → Alike (Place.place_in_kind one f a d b) (Place.place_in_kind other g a d b)
    kind_alike (unused s) d b = alike_refl _
    kind_alike (leaf s k ty) d b = leaf_alike s k ty d b
    kind_alike (array s stride e) d b =
        by_test Alike _ (under_alike _ (element_alike e (d % stride) b)) (elements_alike s stride e (Place.element_of (d % stride) stride b))
    kind_alike (map s es) d b =
        by_test Alike _ (both_refused 9) (found_alike s d b (Place.overlapping d (Place.ends d (size b)) es))

    by_kind_alike : (a : Usage) (d : ℕ) (b : Usage) → Alike (Place.place_by_kind one f a d b) (Place.place_by_kind other g a d b)
    by_kind_alike a d (unused s) = alike_refl _
    by_kind_alike a zero (map s es) = headed_alike (entries_alike a es)
    by_kind_alike a (suc d) (map s es) = kind_alike a (suc d) (map s es)
    by_kind_alike a d (leaf s k ty) = kind_alike a d (leaf s k ty)
    by_kind_alike a d (array s stride e) = kind_alike a d (array s stride e)

    one_alike : (a : Usage) (d : ℕ) (b : Usage) → Alike (Place.place_one one f a d b) (Place.place_one other g a d b)
    one_alike a d b = unless_alike (Place.size_refusal (size a) d (size b)) (after_alike [] [] 1 (omega arith) (by_kind_alike a d b))

  module _ (ties : ch.ties_to_first ≡ ch'.ties_to_first) where
    fuel_alike : (n : ℕ) (a : Usage) (d : ℕ) (b : Usage) → Alike (Place.place_in one n a d b) (Place.place_in other n a d b)
    unfolding Place.place_in
    fuel_alike zero a d b = alike_refl _
    fuel_alike (suc n) a d b = one_alike (Place.place_in one n) (Place.place_in other n) (fuel_alike n) ties a d b

    pub places_alike : (a : Usage) (d : ℕ) (b : Usage) → Alike (Place.place one a d b) (Place.place other a d b)
    unfolding Place.place
    places_alike a d b = fuel_alike (nodes a + nodes b) a d b

    pub merges_alike : (a b : Usage) → Alike (Place.merge_mem one a b) (Place.merge_mem other a b)
    unfolding Place.merge_mem
    merges_alike a b = merge_alike (Place.place one) (Place.place other) places_alike ties a b

    pub tops_alike : (a b : Top) → Alike (Place.merge one a b) (Place.merge other a b)
    tops_alike (opaque a) (opaque b) = alike_refl _
    tops_alike (opaque a) (buffer b) = alike_refl _
    tops_alike (opaque a) (memory b) = alike_refl _
    tops_alike (buffer a) (opaque b) = alike_refl _
    tops_alike (buffer a) (buffer b) = under_alike buffer (merges_alike a b)
    tops_alike (buffer a) (memory b) = alike_refl _
    tops_alike (memory a) (opaque b) = alike_refl _
    tops_alike (memory a) (buffer b) = alike_refl _
    tops_alike (memory a) (memory b) = under_alike memory (merges_alike a b)

    from_alike : (i : ℕ) (last : Usage) (us : List Usage) → Alike (Place.fold_from one i last us) (Place.fold_from other i last us)
    from_alike i last [] = alike_refl _
    from_alike i last (u ∷ us) = then_alike (Place.of_node i) (node_longer i) (merges_alike last u) (λ next. from_alike (suc i) next us)

    pub folds_alike : (ns : Nodes) → Alike (Place.fold one ns) (Place.fold other ns)
    unfolding Place.fold
    folds_alike ns = from_alike 1 ns.first ns.others
