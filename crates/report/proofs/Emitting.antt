-- Emitted bytes behind one another, a position taken back, and the whole of a report: each position is the last one and a length.
-- Assumes nothing.
use Rattle.std.proofs.lemmas.List.{nil_from_length}
use Rattle.std.proofs.Common.{◌≡◌, ℕ, ◌+◌, ◌-◌, ◌%◌, ◌^◌, ◌<◌, ◌≤◌, List, [], ◌++◌, length, get_or, take, sym, refl, ap, ◌∙◌, arith, length-append, length-take-le, get_or-take, get_or-append-add, ext_get_or}
use native.Mathlib.Decide.{dec_lt}
use lib.ListN.{get_or-append}
use Rattle.report.specs.Emitted.{Emitted, SameBuffer}
use Rattle.report.specs.declared.Report.{Report}

byte_at : (s : List ℕ) {i j : ℕ} → i ≡ j → get_or s i 0 ≡ get_or s j 0
byte_at s e = ap (λ (n : ℕ). get_or s n 0) e

pub emitted_nothing : (r : Report) → r.at < 2 ^ 64 → Emitted r [] r
emitted_nothing r h = record { place = omega arith; size = refl; before = λ _ i lt. refl; bytes = λ _ i lt room. absurd (omega arith); same_buffer = refl }

pub emitted_after : {r r₁ r₂ : Report} {xs ys : List ℕ} → Emitted r xs r₁ → Emitted r₁ ys r₂ → Emitted r (xs ++ ys) r₂
emitted_after {r} {r₁} {r₂} {xs} {ys} A B =
    let both : length (xs ++ ys) ≡ length xs + length ys = length-append xs ys in
    record {
      place = omega arith;
      size = B.size ∙ A.size;
      before = λ h i lt. B.before (omega arith) i (omega arith) ∙ A.before (omega arith) i lt;
      bytes = λ h i lt room. elim (dec_lt i (length xs)) [
        | yes v ↦ B.before (omega arith) (r.at + i) (omega arith) ∙ A.bytes (omega arith) i v room ∙ sym (get_or-append xs ys 0 i v)
        | no v ↦
            let k : ℕ = i - length xs in
            let there : r.at + i ≡ r₁.at + k = omega arith in
            let inside : length xs + k ≡ i = omega arith in
            byte_at r₂.buffer.now there
            ∙ B.bytes (omega arith) k (omega arith) (omega arith)
            ∙ sym (get_or-append-add xs ys k 0) ∙ byte_at (xs ++ ys) inside
      ];
      same_buffer = B.same_buffer ∙ A.same_buffer;
    }

-- ys dropped, the position being taken back to where xs ends; they must not have come round to the buffer's start
pub emitted_back : (xs ys : List ℕ) {r r' : Report} {at : ℕ} → Emitted r (xs ++ ys) r' → at ≡ (r.at + length xs) % 2 ^ 64
    → (r.at + length xs < 2 ^ 64 → r.at + length xs + length ys < 2 ^ 64) → Emitted r xs (record r' { at = at })
emitted_back xs ys E e h =
    let both : length (xs ++ ys) ≡ length xs + length ys = length-append xs ys in
    record {
      place = e;
      size = E.size;
      before = λ l i lt. E.before (omega (arith, h l)) i lt;
      bytes = λ l i lt room. E.bytes (omega (arith, h l)) i (omega arith) room ∙ get_or-append xs ys 0 i lt;
      same_buffer = E.same_buffer;
    }

-- xs dropped, and ys in their place
pub emitted_over : {r r₁ r₂ : Report} {xs ys : List ℕ} → Emitted r xs r₁ → Emitted (record r₁ { at = r.at }) ys r₂
    → (r.at + length ys < 2 ^ 64 → r.at + length xs < 2 ^ 64) → Emitted r ys r₂
emitted_over A B h = record {
  place = B.place;
  size = B.size ∙ A.size;
  before = λ l i lt. B.before l i lt ∙ A.before (h l) i lt;
  bytes = λ l i lt room. B.bytes l i lt (omega arith);
  same_buffer = B.same_buffer ∙ A.same_buffer;
}

-- The buffer that was lent

pub kept_nothing : (r : Report) → SameBuffer r r
kept_nothing r = record { size = refl; name = refl }

pub kept_both : {r r₁ r₂ : Report} → SameBuffer r r₁ → SameBuffer r₁ r₂ → SameBuffer r r₂
kept_both K L = record { size = L.size ∙ K.size; name = L.name ∙ K.name }

pub kept_emitted : {r r' : Report} {bs : List ℕ} → Emitted r bs r' → SameBuffer r r'
kept_emitted E = record { size = E.size; name = E.same_buffer }

-- where the position is the same again, nothing was emitted
pub emitted_same : {r r' : Report} {bs : List ℕ} → Emitted r bs r' → r'.at ≡ r.at → r.at < 2 ^ 64 → length bs < 2 ^ 64 → bs ≡ []
emitted_same {bs = bs} E e h l = nil_from_length bs (omega arith)

-- the whole of a report
pub emitted_all : {r r' : Report} {w : List ℕ} → r.at ≡ 0 → Emitted r w r' → length w < 2 ^ 64
    → (r'.at ≡ length w) × (length w ≤ length r.buffer.now → take (length w) r'.buffer.now ≡ w)
emitted_all {r = r} {r' = r'} {w = w} z E h = (
  omega arith,
  λ room.
      let long : length (take (length w) r'.buffer.now) ≡ length w = length-take-le (length w) r'.buffer.now (omega arith) in
      ext_get_or 0 (take (length w) r'.buffer.now) w long (λ i lt.
      let start : i ≡ r.at + i = omega arith in
      get_or-take (length w) r'.buffer.now i 0 (omega arith) ∙ byte_at r'.buffer.now start ∙ E.bytes (omega arith) i (omega arith) (omega arith)),
)
