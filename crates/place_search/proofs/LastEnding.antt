-- The topmost row is the first that is found from the end on, and the rows of a table's front are those of the table.
-- Assumes nothing.
use Rattle.std.proofs.Common.{◌≡◌, refl, sym, ap, subst, ◌∙◌, ℕ, zero, suc, ◌<◌, ◌≤◌, Bool, true, false, cond, List, [], ◌∷◌, ◌++◌, length, get_or, take, reverse, Option, Some, None, MatchOption, Bor, arith}
use Rattle.std.specs.List.{find}
use Rattle.std.specs.Option.{option_map}
use Rattle.std.proofs.lemmas.List.{reverse-reverse, length-reverse, get_or_append_left, get_or-take, length-take-le}
use Rattle.std.proofs.lemmas.Grind.{reverse_onto}
use Rattle.std.proofs.Math.Seq.{get_or-append_seam}
use Rattle.place_search.specs.declared.Entry.{Entry}
use Rattle.place_search.specs.Table.{nothing_is, ends_by, pick, last_of}

-- a search below row k sees the rows below k alone
top_same : (t t' : List Entry) (k d : ℕ) → ((j : ℕ) → j < k → get_or t j nothing_is ≡ get_or t' j nothing_is) → last_of t k d ≡ last_of t' k d
top_same t t' zero d h = refl
top_same t t' (suc k) d h = let e = h k (omega arith) in λ i. pick (ends_by (e i) d) (e i).node (top_same t t' k d (λ j l. h j (omega arith)) i)

-- the search in the first n rows, lent by themselves
pub top_front : (n : ℕ) (t : List Entry) (d : ℕ) → n ≤ length t → last_of (take n t) (length (take n t)) d ≡ last_of t n d
top_front n t d h = ap (λ (k : ℕ). last_of (take n t) k d) (length-take-le n t h) ∙ top_same (take n t) t n d (λ j l. get_or-take n t j nothing_is l)

abbrev node_or : Option Entry → ℕ
node_or None = 0
node_or (Some x) = x.node

picks : (b : Bool) (y : Entry) (k : ℕ) (o : Option Entry) → k ≡ node_or o → pick b y.node k ≡ node_or (cond b (Some y) o)
picks true y k o e = refl
picks false y k o e = e

top_last : (ys : List Entry) (d : ℕ) → last_of (reverse ys) (length ys) d ≡ node_or (find (λ x. ends_by x d) ys)
top_last [] d = refl
top_last (y ∷ ys) d =
    let k = length ys in
    let t = reverse ys ++ (y ∷ []) in
    let e : reverse (y ∷ ys) ≡ t = reverse_onto ys y [] in
    let l : length (reverse ys) ≡ k = length-reverse ys in
    let last : get_or t k nothing_is ≡ y = subst (λ (j : ℕ). get_or t j nothing_is ≡ y) l (get_or-append_seam (reverse ys) y [] nothing_is) in
    let below : last_of t k d ≡ last_of (reverse ys) k d = top_same t (reverse ys) k d (λ j h. get_or_append_left (reverse ys) (y ∷ []) nothing_is j (omega arith)) in
    ap (λ (x : List Entry). last_of x (suc k) d) e ∙ ap (λ (x : Entry). pick (ends_by x d) x.node (last_of t k d)) last ∙ picks (ends_by y d) y (last_of t k d) (find (λ x. ends_by x d) ys) (below ∙ top_last ys d)

found_node : (r : ℕ) (o : Option (Bor Entry)) → MatchOption o (r ≡ 0) (λ x. r ≡ x.now.node) → r ≡ node_or (option_map (λ x. x.now) o)
found_node r None h = h
found_node r (Some x) h = h

-- what is found from the end on
pub top_found : (t : List Entry) (d r : ℕ) (o : Option (Bor Entry)) → option_map (λ x. x.now) o ≡ find (λ x. ends_by x d) (reverse t) → MatchOption o (r ≡ 0) (λ x. r ≡ x.now.node) → r ≡ last_of t (length t) d
top_found t d r o e h =
    let back : last_of t (length t) d ≡ node_or (find (λ x. ends_by x d) (reverse t)) = ap (λ (x : List Entry). last_of x (length t) d) (sym (reverse-reverse t)) ∙ ap (λ (k : ℕ). last_of (reverse (reverse t)) k d) (sym (length-reverse t)) ∙ top_last (reverse t) d in
    found_node r o h ∙ ap node_or e ∙ sym back
