-- What is read at the root of a usage: its kind is its own part's, and its argument is the one that is written.
-- Assumes nothing.
use Prim.Native.Nat.{ℕ, suc}
use mathlib.Core.Path.{◌≡◌, refl, ap, sym, ◌∙◌, subst}
use mathlib.Core.List.{List}
use native.Mathlib.Omega.{arith}
use Rattle.definitions.specs.Usage.{Usage, unused, leaf, map, array, nodes, count}
use Rattle.definitions.specs.Command.{head_of, command_at, argument_width}
use Rattle.definitions.specs.Stream.{bytes}
use Rattle.definitions.proofs.Nodes.{few_entries}
use Rattle.qptr.specs.declared.Kind.{Kind}
use Rattle.qptr.specs.declared.Kind.TheVariants.{OffsetBase}
use Rattle.qptr.specs.Values.{command_of, kind_of}
use Rattle.qptr.proofs.Nodes.{kind_head, map_command}
use Rattle.records.specs.Records.{command_in, child_in, argument_in}
use Rattle.record_links.specs.Standing.{Stands, Row}
use Rattle.record_links.proofs.Stands.{stands_root}
use Rattle.record_links.proofs.Shapes.{map_of}
use Rattle.stream_write.specs.Writing.{Readable, Listed, CountIs, ArgumentIs}

pub command_of_root : (u : Usage) (s : List ℕ) (q : ℕ) (c : Kind) (rank : ℕ → ℕ) (lo hi : ℕ) → c ≡ kind_of (command_in s q) → Stands u s q rank lo hi → command_of c ≡ (head_of u).command
command_of_root u s q c rank lo hi e h = sym (kind_head c u (e ∙ ap kind_of (stands_root u s q rank lo hi h).command))

-- a map's argument is the count of its entries

pub map_listed : (s : List ℕ) (q : ℕ) (c : Kind) (x : ℕ) → Readable s q → c ≡ kind_of (command_in s q) → c ≡ OffsetBase → x ≡ child_in s q → Listed s x
map_listed s q c x P ec e3 ex =
    let M = map_of P.usage s q P.rank P.lo P.hi (map_command ec e3) P.stands in
    record {
      entries = M.0;
      rank = P.rank;
      lo = suc (P.rank q);
      hi = P.hi;
      row = subst (λ (y : ℕ). Row M.0 s y 0 P.rank (suc (P.rank q)) P.hi) (sym ex) M.3;
      small = omega (arith, P.small, ap nodes M.1, few_entries M.0);
    }

pub argument_counted : (s : List ℕ) (q : ℕ) (c : Kind) (x r : ℕ) → c ≡ kind_of (command_in s q) → c ≡ OffsetBase → x ≡ child_in s q → CountIs s x r → ArgumentIs s q r
argument_counted s q c x r ec e3 ex C = record {
  of = λ u rank lo hi h.
      let M = map_of u s q rank lo hi (map_command ec e3) h in
      let n : r ≡ count M.0 = C.of M.0 rank (suc (rank q)) hi (subst (λ (y : ℕ). Row M.0 s y 0 rank (suc (rank q)) hi) (sym ex) M.3) in
      rw (M.1, n);
}

-- and any other is kept, or has no bytes
pub argument_kept : (s : List ℕ) (q : ℕ) (c : Kind) (r : ℕ) → c ≡ kind_of (command_in s q) → (c ≡ OffsetBase → ⊥) → r ≡ argument_in s q → ArgumentIs s q r
unfolding Stands command_at
argument_kept s q c r ec other e = record { of = of }
  where
    of : (u : Usage) (rank : ℕ → ℕ) (lo hi : ℕ) → Stands u s q rank lo hi → bytes (argument_width (head_of u).command) r ≡ bytes (argument_width (head_of u).command) (head_of u).argument
    of (unused z) rank lo hi h = refl
    of (leaf z k t) rank lo hi h = ap (bytes (argument_width (head_of (leaf z k t)).command)) (e ∙ h.1)
    of (map z es) rank lo hi h = absurd (other (ec ∙ ap kind_of h.0.command))
    of (array z n x) rank lo hi h = ap (bytes (argument_width 4)) (e ∙ h.1)
