-- Entries alone: one behind another, told from the last of them down, and counted.
-- Assumes nothing.
use Prim.Native.Nat.{◌+◌}
use mathlib.Core.Path.{◌≡◌, refl, sym, ap, ◌∙◌}
use native.Mathlib.Omega.{arith}
use Rattle.definitions.specs.Usage.{Entries, none, entry, nodes_in, count, ◌<+>◌}
use Rattle.record_links.specs.Rows.{onto}

pub app_none : (x : Entries) → x <+> none ≡ x
app_none none = refl
app_none (entry o u x) = ap (entry o u) (app_none x)

pub append_assoc : (x y z : Entries) → (x <+> y) <+> z ≡ x <+> (y <+> z)
append_assoc none y z = refl
append_assoc (entry o u x) y z = ap (entry o u) (append_assoc x y z)

-- Told from the last of them down

pub rev_app : (x y : Entries) → onto x y ≡ onto x none <+> y
unfolding onto
rev_app none y = refl
rev_app (entry o u x) y = rev_app x (entry o u y) ∙ sym (append_assoc (onto x none) (entry o u none) y) ∙ ap (λ (z : Entries). z <+> y) (sym (rev_app x (entry o u none)))

pub rev_rev : (x y z : Entries) → onto (onto x y) z ≡ onto y (x <+> z)
unfolding onto
rev_rev none y z = refl
rev_rev (entry o u x) y z = rev_rev x (entry o u y) z

pub rev_twice : (x : Entries) → onto (onto x none) none ≡ x
unfolding onto
rev_twice x = rev_rev x none none ∙ app_none x

-- Counted

pub append_count : (x y : Entries) → count (x <+> y) ≡ count x + count y
append_count none y = omega arith
append_count (entry o u x) y = omega (arith, append_count x y)

pub count_onto : (x y : Entries) → count (onto x y) ≡ count x + count y
unfolding onto
count_onto none y = omega arith
count_onto (entry o u x) y = omega (arith, count_onto x (entry o u y))

pub onto_nodes : (es fs : Entries) → nodes_in (onto es fs) ≡ nodes_in es + nodes_in fs
unfolding onto
onto_nodes none fs = omega arith
onto_nodes (entry o u es) fs = omega (arith, onto_nodes es (entry o u fs))
