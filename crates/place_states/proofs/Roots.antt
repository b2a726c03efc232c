-- A root's command tells the kind of its usage, and whether rules 1 and 2 take it.
-- Assumes nothing.
use Rattle.std.proofs.Common.{◌≡◌, ℕ, zero, suc, List, refl, arith}
use Rattle.definitions.specs.Usage.{Usage, unused, leaf, map, array, size}
use Rattle.definitions.specs.Command.{head_of}
use Rattle.definitions.specs.Table.{Setting}
use Rattle.definitions.specs.Place.{Placing, place_by_kind, place_in_kind}
use Rattle.records.specs.Records.{command_in, size_in}
use Rattle.record_links.specs.Standing.{Root}
use Rattle.record_links.proofs.ByCommand.{IsUnused, IsMap, IsArray, unused_of, map_of, array_of}
use Rattle.record_links.proofs.Stands.{stands_root}
use Rattle.place_states.specs.Calls.{Two}
use Rattle.place_states.specs.Starts.{Plain}

-- rules 1 and 2 leave the others to a's kind
plain_of : (setting : Setting) (place : Placing) (a : Usage) (d : ℕ) (b : Usage) → Plain (head_of b).command d
    → place_by_kind setting place a d b ≡ place_in_kind setting place a d b
plain_of setting place a d (unused z) h = absurd (h.used refl)
plain_of setting place a zero (map z es) h = absurd (h.no_map refl refl)
plain_of setting place a (suc d) (map z es) h = refl
plain_of setting place a d (leaf z k t) h = refl
plain_of setting place a d (array z n e) h = refl

module _ {k : ℕ} {s : List ℕ} {a b : ℕ} {r : ℕ → ℕ} {lo mid hi : ℕ} {t u : Usage} (two : Two k s a b r lo mid hi t u) where
  pub left_root : Root s a r lo mid (head_of t).command (size t)
  left_root = stands_root t s a r lo mid two.left

  pub right_root : Root s b r mid hi (head_of u).command (size u)
  right_root = stands_root u s b r mid hi two.right

  pub left_command : command_in s a ≡ (head_of t).command
  left_command = left_root.command

  pub right_command : command_in s b ≡ (head_of u).command
  right_command = right_root.command

  pub left_size : size_in s a ≡ size t
  left_size = left_root.size

  pub right_size : size_in s b ≡ size u
  right_size = right_root.size

  pub left_unused : command_in s a ≡ 0 → IsUnused t
  left_unused e = unused_of t (omega (arith, left_command))

  pub left_array : command_in s a ≡ 4 → IsArray t
  left_array e = array_of t (omega (arith, left_command))

  pub right_unused : command_in s b ≡ 0 → IsUnused u
  right_unused e = unused_of u (omega (arith, right_command))

  pub right_array : command_in s b ≡ 4 → IsArray u
  right_array e = array_of u (omega (arith, right_command))

  pub right_map : command_in s b ≡ 3 → IsMap u
  right_map e = map_of u (omega (arith, right_command))

  pub right_plain : (setting : Setting) (place : Placing) (d : ℕ) → Plain (command_in s b) d
      → place_by_kind setting place t d u ≡ place_in_kind setting place t d u
  right_plain setting place d h = plain_of setting place t d u (rw right_command at h)
