-- `walk::past` meets its contract: only an array's command is the one that an element follows.
use Rattle.std.proofs.Common.{◌≡◌, true, false, refl, sym, ◌∙◌, arith}
use borrow.Author.Rules.{rules}
use denote.Enum.Bare.{sameb, same_true}
use Rattle.qptr.specs.Values.{command_of}
use Rattle.qptr.specs.declared.Kind.{Kind}
use Rattle.qptr.specs.declared.Kind.TheVariants.{Unused, StrictlyTyped, DirectAccess, OffsetBase, DynOffsetBase}
use Rattle.qptr.specs.contracts.Kind.{the_type}
use Rattle.stream.proofs.walk.past.Goals as goal

array : (k : Kind) → sameb the_type k DynOffsetBase ≡ true → command_of k ≡ 4
array k e = rw (same_true the_type (search rules) k DynOffsetBase e) refl

no_array : (k : Kind) → sameb the_type k DynOffsetBase ≡ false → command_of k ≡ 4 → ⊥
no_array Unused e h = cc
no_array StrictlyTyped e h = cc
no_array DirectAccess e h = cc
no_array OffsetBase e h = cc
no_array DynOffsetBase e h = cc

pub returns-then-eq : goal.returns-then-eq
returns-then-eq c = array c.args.node.kind (sym c.eq.ensures ∙ c.if-eq.true)

pub returns-then-owing-eq0 : goal.returns-then-owing-eq0
returns-then-owing-eq0 c = (no_array c.args.node.kind (sym c.eq.ensures ∙ c.if-eq.false), rw (← c.entries.ensures) c.if-owing-eq0.true)

pub returns-then-s-end : goal.returns-then-s-end
returns-then-s-end c =
    (no_array c.args.node.kind (sym c.eq.ensures ∙ c.if-eq.false), omega (arith, c.if-s-end.true, c.entries.ensures, c.requires))

pub returns : goal.returns
returns c =
    record {
      other = no_array c.args.node.kind (sym c.eq.ensures ∙ c.if-eq.false);
      more = omega (arith, c.if-owing-eq0.false, c.entries.ensures);
      long = omega (arith, c.if-owing-eq0.false, c.if-s-end.false, c.requires);
      small = omega (arith, c.if-s-end.false, c.requires);
    }
