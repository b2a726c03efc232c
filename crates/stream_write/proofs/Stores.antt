-- Two texts that come one behind the other are one.
-- Assumes nothing.
use Prim.Native.Nat.{ℕ, suc, ◌+◌}
use mathlib.Core.Path.{◌≡◌, ap, sym, ◌∙◌}
use mathlib.Core.List.{List, [], ◌∷◌, ◌++◌}
use native.Mathlib.Omega.{arith}
use lib.ListN.{length, set, length-append}
use lib.Seq.{sets}
use Rattle.stream_write.specs.Nodes.{Put, Onto}
use Rattle.stream_write.specs.declared.Output.{Output}

pub sets_append : (l : List ℕ) (i : ℕ) (xs ys : List ℕ) → sets l i (xs ++ ys) ≡ sets (sets l i xs) (i + length xs) ys
sets_append l i [] ys = let e : i ≡ i + 0 = omega arith in ap (λ (k : ℕ). sets l k ys) e
sets_append l i (a ∷ xs) ys =
    let e : suc i + length xs ≡ i + suc (length xs) = omega arith in
    sets_append (set l i a) (suc i) xs ys ∙ ap (λ (k : ℕ). sets (sets (set l i a) (suc i) xs) k ys) e

pub put_more : {text more out out₁ out₂ : List ℕ} {at p r : ℕ} → Put text out at out₁ p → Put more out₁ p out₂ r → Put (text ++ more) out at out₂ r
put_more {text} {more} {out} {at} A B = record {
  stored = B.stored ∙ rw (A.stored, A.behind) (sym (sets_append out at text more));
  behind = omega (arith, A.behind, B.behind, length-append text more);
}

-- what follows in one buffer

pub onto_as : {P Q : List ℕ → ℕ → List ℕ → ℕ → Type 0} {o o' : Output} → (P o.buffer.now o.at o'.buffer.now o'.at → Q o.buffer.now o.at o'.buffer.now o'.at) → Onto P o o' → Onto Q o o'
onto_as f A = record { is = f A.is; long = A.long; same_buffer = A.same_buffer }

pub onto_then : {P Q R : List ℕ → ℕ → List ℕ → ℕ → Type 0} {o o₁ o₂ : Output}
    → (P o.buffer.now o.at o₁.buffer.now o₁.at → Q o₁.buffer.now o₁.at o₂.buffer.now o₂.at → R o.buffer.now o.at o₂.buffer.now o₂.at)
    → Onto P o o₁ → Onto Q o₁ o₂ → Onto R o o₂
onto_then f A B = record { is = f A.is B.is; long = B.long ∙ A.long; same_buffer = B.same_buffer ∙ A.same_buffer }

pub onto_more : {xs ys : List ℕ} {o o₁ o₂ : Output} → Onto (Put xs) o o₁ → Onto (Put ys) o₁ o₂ → Onto (Put (xs ++ ys)) o o₂
onto_more A B = onto_then put_more A B
