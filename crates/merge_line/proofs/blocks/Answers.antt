-- `blocks` meets its contract: three blocks, and nothing is left.
use Rattle.merge_line.proofs.Framing.{too_long, not_blocks, left_over, framed}
use Rattle.merge_line.proofs.blocks.Goals as goal

pub returns-then-s-gt-INPUT : goal.returns-then-s-gt-INPUT
returns-then-s-gt-INPUT c = too_long _ c.if-s-gt-INPUT.true

pub returns-in_err-parts : goal.returns-in_err-parts
returns-in_err-parts c = rw c.from_residual.ensures (not_blocks _ c.in_err-parts.ensures)

pub returns-then-not-is_empty : goal.returns-then-not-is_empty
returns-then-not-is_empty c = left_over _ _ _ c.in_ok-parts.ensures _ c.is_empty.ensures c.if-not-is_empty.true

pub returns : goal.returns
returns c = framed _ _ _ c.in_ok-parts.ensures _ c.is_empty.ensures c.if-s-gt-INPUT.false c.if-not-is_empty.false
