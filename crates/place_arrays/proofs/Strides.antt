-- What an array's record says: a stride that is not 0.
-- Assumes nothing.
use Rattle.std.proofs.Common.{◌≡◌, ℕ, ◌%◌, ◌<◌, ◌≤◌, List, arith}
use Rattle.std.proofs.Math.Nat.{mod-lt}
use Rattle.definitions.specs.Usage.{Usage}
use Rattle.definitions.specs.Command.{head_of}
use Rattle.records.specs.Records.{command_in, argument_in}
use Rattle.record_links.specs.Standing.{Stands}
use Rattle.record_links.proofs.ByCommand.{IsArray, is_array, array_of}
use Rattle.place_states.specs.Calls.{Two, Beside}
use Rattle.place_states.proofs.Roots.{left_array}

pub array_argument : (u : Usage) (s : List ℕ) (q : ℕ) (r : ℕ → ℕ) (lo hi : ℕ) → Stands u s q r lo hi → (head_of u).command ≡ 4 → argument_in s q ≡ (head_of u).argument
unfolding Stands
array_argument u s q r lo hi h is = go (array_of u is) h
  where
    go : {u : Usage} → IsArray u → Stands u s q r lo hi → argument_in s q ≡ (head_of u).argument
    go (is_array z n e) h = h.1

-- a's stride is not 0
pub stride_some : (s : List ℕ) (a b n : ℕ) → Beside s a b → command_in s a ≡ 4 → n ≡ argument_in s a → 0 < n
unfolding Stands
stride_some s a b n B is e = go (left_array B.two is) B.two
  where
    go : {t : Usage} → IsArray t → Two B.k s a b B.r B.lo B.mid B.hi t B.u → 0 < n
    go (is_array z m v) two = omega (arith, two.left.1, two.left_fits.1)

pub rest_within : (s : List ℕ) (a b d n : ℕ) → Beside s a b → command_in s a ≡ 4 → n ≡ argument_in s a → d % n ≤ n
rest_within s a b d n B is e = omega (arith, mod-lt d (stride_some s a b n B is e))
