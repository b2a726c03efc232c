-- What is linked is counted, where no more than k entries are: so behind the first of them one fewer is linked.
-- Assumes nothing.
use Prim.Native.Nat.{ℕ, zero, suc, ◌+◌, ◌≤◌}
use mathlib.Core.Path.{◌≡◌, refl, ap}
use mathlib.Core.List.{List}
use native.Mathlib.Omega.{arith}
use Rattle.definitions.specs.Usage.{Entries, none, entry, count}
use Rattle.records.specs.Records.{next_in}
use Rattle.record_links.specs.Standing.{Stands, Row}
use Rattle.record_links.specs.Rows.{Down, chain}
use Rattle.record_links.proofs.Stands.{stands_root}
use Rattle.record_links.proofs.Rows.{head, top}

pub chain_many : (k : ℕ) (es : Entries) (s : List ℕ) (q : ℕ) (r : ℕ → ℕ) (lo hi : ℕ) → count es ≤ k → Row es s q 0 r lo hi → chain k s q ≡ count es
unfolding Stands chain
chain_many zero none s q r lo hi le h = refl
chain_many zero (entry o u es) s q r lo hi le h = absurd (omega arith)
chain_many (suc k) none s zero r lo hi le h = refl
chain_many (suc k) none s (suc q) r lo hi le h = absurd (omega (arith, h.0))
chain_many (suc k) (entry o u es) s zero r lo hi le h = absurd (omega (arith, (stands_root u s 0 r lo h.0 h.2).some))
chain_many (suc k) (entry o u es) s (suc q) r lo hi le h = ap suc (chain_many k es s (next_in s (suc q)) r h.0 hi (omega arith) h.3)

pub down_chain : (k : ℕ) (es : Entries) (s : List ℕ) (q : ℕ) (r : ℕ → ℕ) (lo hi : ℕ) → count es ≤ k → Down es s q r lo hi → chain k s q ≡ count es
unfolding Down chain
down_chain zero none s q r lo hi le h = refl
down_chain zero (entry o u es) s q r lo hi le h = absurd (omega arith)
down_chain (suc k) none s zero r lo hi le h = refl
down_chain (suc k) none s (suc q) r lo hi le h = absurd (omega (arith, h.0))
down_chain (suc k) (entry o u es) s zero r lo hi le h = absurd (omega (arith, (stands_root u s 0 r h.0 hi h.2).some))
down_chain (suc k) (entry o u es) s (suc q) r lo hi le h = ap suc (down_chain k es s (next_in s (suc q)) r lo h.0 (omega arith) h.3)

pub chain_zero : (k : ℕ) (s : List ℕ) → chain k s 0 ≡ 0
unfolding chain
chain_zero zero s = refl
chain_zero (suc k) s = refl

pub row_falls : (es : Entries) (s : List ℕ) (q : ℕ) (r : ℕ → ℕ) (lo hi : ℕ) → count es ≤ 65536 → (q ≡ 0 → ⊥) → Row es s q 0 r lo hi
    → chain 65536 s (next_in s q) + 1 ≤ chain 65536 s q
row_falls es s q r lo hi few some h =
    let v = head es s q 0 r lo hi some h in
    let n : count es ≡ suc (count v.rest) = ap count v.is in
    omega (arith, chain_many 65536 es s q r lo hi few h, chain_many 65536 v.rest s (next_in s q) r v.m hi (omega arith) v.row)

pub down_falls : (es : Entries) (s : List ℕ) (q : ℕ) (r : ℕ → ℕ) (lo hi : ℕ) → count es ≤ 65536 → (q ≡ 0 → ⊥) → Down es s q r lo hi
    → chain 65536 s (next_in s q) + 1 ≤ chain 65536 s q
down_falls es s q r lo hi few some h =
    let v = top es s q r lo hi some h in
    let n : count es ≡ suc (count v.rest) = ap count v.is in
    omega (arith, down_chain 65536 es s q r lo hi few h, down_chain 65536 v.rest s (next_in s q) r lo v.m (omega arith) v.down)
