-- A walk that also asks for order reads what the reader reads, and its sums are the sums of the usage.
-- Assumes nothing.
use Prim.Native.Nat.{ℕ, suc, max, ◌+◌, ◌≤◌}
use mathlib.Core.Path.{◌≡◌, refl, sym, ◌∙◌}
use mathlib.Core.List.{List, [], ◌∷◌}
use native.Mathlib.Omega.{arith}
use lib.ListN.{length, drop, length-drop}
use Rattle.std.specs.Prelude.{Some, None}
use Rattle.definitions.specs.Limits.{max32}
use Rattle.definitions.specs.Usage.{Usage, nodes}
use Rattle.definitions.specs.Stream.{Read, broken, read, ◌then◌, read_node}
use Rattle.qptr.specs.declared.Node.{Node}
use Rattle.qptr.specs.Values.{part_of}
use Rattle.stream.specs.Head.{head, PartAt}
use Rattle.stream.specs.Found.{type_bound, NodeAt}
use Rattle.stream.specs.Walk.{level, Sum, sum, owing, pending, ToRead, entries_of, own_bound, Owes, Goes}
use Rattle.stream.specs.Window.{levels, Held, Enters}
use Rattle.stream.specs.declared.maps.Maps.{Maps}
use Rattle.stream.specs.declared.walk.Next.TheVariants as nexts
use Rattle.stream.proofs.Then.{never, then_reads}
use Rattle.stream.proofs.Owing.{pending_start, owing_none, owing_short}
use Rattle.stream.proofs.Stepping.{step_stop, step_element, step_entries}
use Rattle.stream.proofs.Keeping.{none_left}
use Rattle.stream.proofs.Entering.{shut}

module _ (s : List ℕ) (from : ℕ) where
  -- the walk from `from` stands at `at`, inside of maps of which the window w has levels: n nodes with types below t are read, and so many
  -- entries are owed
  pub record Counting (w : List ℕ) (at owed : ℕ) (m : Maps) (n t : ℕ) : Type 0 where
    pub stands : ToRead (pending 0 0 [] 0 (drop from s)) s at owed (levels m w) n t
    pub held : Held m w
    pub within : at ≤ length s
    pub small : owed ≤ length s
    pub taken : from + n ≤ at
    pub few : t ≤ suc max32

  pub count_start : (w : List ℕ) (m : Maps) → from ≤ length s → m.left ≡ 0 → m.outer ≡ 0 → Counting w from 0 m 0 0
  count_start w m h left outer =
      let held : Held m w = record { room = omega arith; small = omega arith; inner = λ _. outer } in
      record {
        stands = rw (none_left m w held left) (shut (suc m.last) (record { others = 0; owes = omega arith; same = refl }));
        held = held;
        within = h;
        small = omega arith;
        taken = omega arith;
        few = omega arith;
      }

  -- the walk's end is the node's
  nowhere : pending 0 0 [] 0 (drop from s) ≡ broken → read_node (drop from s) ≡ broken
  nowhere e = go (read_node (drop from s)) (sym (pending_start (drop from s)) ∙ e)
    where
      go : (r : Read Usage) → ◌≡◌ {A = Read Sum} (r then λ u rest. read (sum (nodes u) (type_bound u)) rest) broken → r ≡ broken
      go broken p = refl
      go (read u rest) p = never (sym p)

  module _ {w : List ℕ} {at owed : ℕ} {m : Maps} {n t : ℕ} (walk : Counting w at owed m n t) where
    pub count_stop : head (drop at s) ≡ broken → read_node (drop from s) ≡ broken
    count_stop e = nowhere (walk.stands.same ∙ step_stop n t (levels m w) walk.stands.others (drop at s) e)

    module _ {node : Node} {end : ℕ} (part : PartAt s at node end) where
      pub count_disorder : {owing' : ℕ} → Owes s (part_of node) end owed owing' → Enters s at (part_of node) end m w w None
          → read_node (drop from s) ≡ broken
      count_disorder owes enters = nowhere (enters _ owed _ n t owes.more walk.stands)

      -- what is owed behind the own part
      behind : ((part_of node).command ≡ 0x04 → ⊥)
          → pending 0 0 [] 0 (drop from s)
          ≡ owing (n + 1) (max t (own_bound (part_of node))) (level (entries_of (part_of node)) 0 ∷ levels m w) walk.stands.others (drop end s)
      behind other = walk.stands.same ∙ step_entries n t (levels m w) walk.stands.others (drop at s) (part_of node) part.reads other

      pub count_short : Goes s (part_of node) end owed None → read_node (drop from s) ≡ broken
      count_short goes =
          nowhere
          (behind goes.0
          ∙ owing_short (n + 1) (max t (own_bound (part_of node))) _ walk.stands.others (drop end s)
          (rw length-drop (omega (arith, goes.1, part.within, walk.stands.owes))))

      module _ {t' : ℕ} (types : t' ≡ max t (own_bound (part_of node))) (few : own_bound (part_of node) ≤ suc max32) where
        pub count_element : (part_of node).command ≡ 0x04 → Counting w end owed m (n + 1) t'
        count_element is =
            record {
              stands =
                  record {
                    others = walk.stands.others;
                    owes = walk.stands.owes;
                    same =
                        walk.stands.same
                        ∙ rw types (step_element n t (levels m w) walk.stands.others (drop at s) (part_of node) part.reads is);
                  };
              held = walk.held;
              within = part.within;
              small = walk.small;
              taken = omega (arith, walk.taken, part.taken);
              few = omega (arith, walk.few);
            }

        pub count_end : Goes s (part_of node) end owed (Some nexts.End) → NodeAt s from end (n + 1) t'
        count_end goes =
            let ls = level (entries_of (part_of node)) 0 ∷ levels m w in
            let none = owing_none (n + 1) (max t (own_bound (part_of node))) ls walk.stands.others (drop end s) (omega (arith, goes.1, walk.stands.owes)) in
            let r = then_reads (read_node (drop from s)) (sym (pending_start (drop from s)) ∙ behind goes.0 ∙ none) in
            record {
              usage = r.0;
              reads = cc (r.2, r.3);
              counted = cc r.3;
              bounded = cc (r.3, types);
              taken = omega (arith, walk.taken, part.taken);
              within = part.within;
              small = omega (arith, walk.few);
            }
