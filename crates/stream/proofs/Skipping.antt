-- A walk that does not look at sizes, strides and the order of offsets still finds where a node ends, if it is one: whatever reads is read by going on.
-- Assumes nothing.
use Prim.Native.Nat.{ℕ, max, ◌+◌, ◌≤◌}
use mathlib.Core.Path.{◌≡◌, refl, sym, ◌∙◌}
use mathlib.Core.List.{List, []}
use native.Mathlib.Omega.{arith}
use lib.ListN.{length, drop, length-drop}
use Rattle.std.specs.Prelude.{Option, Some, None}
use Rattle.definitions.specs.Usage.{Usage, nodes}
use Rattle.definitions.specs.Command.{Head}
use Rattle.definitions.specs.Stream.{Read, broken, read, read_node}
use Rattle.qptr.specs.declared.Node.{Node}
use Rattle.qptr.specs.Values.{part_of}
use Rattle.stream.proofs.Places.{offset_at}
use Rattle.stream.specs.Head.{head, OutlineAt}
use Rattle.stream.specs.Found.{type_bound}
use Rattle.stream.specs.Walk.{Sum, sum, owing, pending, entries_of, own_bound, Goes, Skips}
use Rattle.stream.specs.declared.walk.Next.{Next}
use Rattle.stream.specs.declared.walk.Next.TheVariants as nexts
use Rattle.stream.proofs.Owing.{pending_start, owing_is, owing_entry, owing_loose, owing_short, owing_none}
use Rattle.stream.proofs.Stepping.{step_stop, step_element, step_entries}
use Rattle.stream.proofs.Parts.{outline_same}
use Rattle.stream.proofs.Then.{never}

-- if the node at `from` reads, so does what a walk goes on with, to the same end
abbrev Leads : List ℕ → ℕ → Read Sum → Type 0
Leads s from r = (x : Sum) (rest : List ℕ) → pending 0 0 [] 0 (drop from s) ≡ read x rest → r ≡ read x rest

-- the walk from `from` stands at `at`, with so many entries owed
pub record Skipping (s : List ℕ) (from at owed : ℕ) : Type 0 where
  pub n : ℕ
  pub t : ℕ
  pub leads : Leads s from (pending n t [] owed (drop at s))
  pub within : at ≤ length s
  pub small : owed ≤ length s

-- what an own part opens and bounds does not hang on its size
opens_alike : (h h' : Head) → h.command ≡ h'.command → h.argument ≡ h'.argument → entries_of h ≡ entries_of h'
unfolding entries_of
opens_alike h h' c a = rw (c, a)

bounds_alike : (h h' : Head) → h.command ≡ h'.command → h.argument ≡ h'.argument → own_bound h ≡ own_bound h'
unfolding own_bound
bounds_alike h h' c a = rw (c, a)

module _ (s : List ℕ) (from : ℕ) where
  pub skip_start : from ≤ length s → Skipping s from from 0
  skip_start h = record { n = 0; t = 0; leads = λ x rest e. e; within = h; small = omega arith }

  -- the sum of the node at `from`, where it reads
  summed : {u : Usage} {rest : List ℕ} → read_node (drop from s) ≡ read u rest → pending 0 0 [] 0 (drop from s) ≡ read (sum (nodes u) (type_bound u)) rest
  summed e = rw (pending_start (drop from s), e)

  nothing_leads : Leads s from broken → Skips s from None
  nothing_leads leads u rest e = never (leads _ _ (summed e))

  -- what a turn of the walk comes to, behind an own part that ends at `end`
  abbrev pub Skips_on : ℕ → ℕ → Option Next → Type 0
  Skips_on end owed (Some nexts.Element) = Skipping s from end owed
  Skips_on end owed (Some (nexts.Entry owing)) = Skipping s from (end + 4) owing
  Skips_on end owed (Some nexts.End) = Skips s from (Some end)
  Skips_on end owed None = Skips s from None

  module _ {at owed : ℕ} (walk : Skipping s from at owed) where
    pub skip_stop : head (drop at s) ≡ broken → Skips s from None
    skip_stop e = nothing_leads λ x rest p. sym (step_stop walk.n walk.t [] owed (drop at s) e) ∙ walk.leads x rest p

    module _ {node : Node} {end : ℕ} (part : OutlineAt s at node end) where
      abbrev h : Head
      h = part_of node

      abbrev bound : ℕ
      bound = max walk.t (own_bound h)

      -- where nothing is read, it does not matter what the walk goes on with

      element : h.command ≡ 0x04 → Leads s from (pending (walk.n + 1) bound [] owed (drop end s))
      element is x rest p = go (head (drop at s)) refl
        where
          go : (r : Read Head) → head (drop at s) ≡ r → pending (walk.n + 1) bound [] owed (drop end s) ≡ read x rest
          go broken e = never (sym (step_stop walk.n walk.t [] owed (drop at s) e) ∙ walk.leads x rest p)
          go (read g bs) e =
              let same = outline_same part g bs e in
              rw (← same.2, ← bounds_alike g h same.0 same.1)
              (sym (step_element walk.n walk.t [] owed (drop at s) g e (same.0 ∙ is)) ∙ walk.leads x rest p)

      entries : (h.command ≡ 0x04 → ⊥) → Leads s from (owing (walk.n + 1) bound [] (entries_of h + owed) (drop end s))
      entries not x rest p = go (head (drop at s)) refl
        where
          go : (r : Read Head) → head (drop at s) ≡ r → owing (walk.n + 1) bound [] (entries_of h + owed) (drop end s) ≡ read x rest
          go broken e = never (sym (step_stop walk.n walk.t [] owed (drop at s) e) ∙ walk.leads x rest p)
          go (read g bs) e =
              let same = outline_same part g bs e in
              rw (← same.2, ← bounds_alike g h same.0 same.1, ← opens_alike g h same.0 same.1)
              (owing_is [] bs refl refl (omega arith)
              ∙ owing_loose (walk.n + 1) (max walk.t (own_bound g)) _ owed bs
              (sym (step_entries walk.n walk.t [] owed (drop at s) g e (λ is. not (sym same.0 ∙ is))) ∙ walk.leads x rest p))

      pub skip_turn : (r : Option Next) → Goes s h end owed r → Skips_on end owed r
      skip_turn (Some nexts.Element) is = record { n = _; t = _; leads = element is; within = part.within; small = walk.small }
      skip_turn (Some (nexts.Entry owing)) goes =
          record {
            n = walk.n + 1;
            t = bound;
            leads = λ x rest p.
                sym (owing_is [] (drop end s) refl refl goes.more ∙ owing_entry (walk.n + 1) bound owing (drop end s) (offset_at s end goes.long refl))
                ∙ entries goes.other x rest p;
            within = goes.long;
            small = goes.small;
          }
      skip_turn (Some nexts.End) goes = (
        part.within,
        λ u rest p.
            let both = sym (owing_none (walk.n + 1) bound [] (entries_of h + owed) (drop end s) (omega (arith, goes.1))) ∙ entries goes.0 _ _ (summed p) in cc,
      )
      skip_turn None goes =
          nothing_leads λ x rest p.
          sym (owing_short (walk.n + 1) bound [] (entries_of h + owed) (drop end s) (rw length-drop (omega (arith, goes.1, part.within))))
          ∙ entries goes.0 x rest p
