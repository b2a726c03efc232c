-- `CachedAnswer::about` meets its contract: an answer is its tag and its offset.
use Rattle.std.proofs.Common.{◌≡◌, ℕ, refl}
use mathlib.Core.Path.{◌∙◌}
use Rattle.support_cache.specs.declared.CachedAnswer.{CachedAnswer}
use Rattle.support_cache.proofs.CachedAnswer.about.Goals as goal

same_answer : {a : CachedAnswer} {t p : ℕ} → a.tag ≡ t → a.past ≡ p → a ≡ record { tag = t; past = p }
same_answer e f = rw (← e, ← f) refl

pub returns-then-self-tag_of : goal.returns-then-self-tag_of
returns-then-self-tag_of c = same_answer (c.if-self-tag_of.true ∙ c.tag_of.ensures) c.if-self-at.false

pub returns-then-self-tag_of-2 : goal.returns-then-self-tag_of-2
returns-then-self-tag_of-2 c = same_answer (c.if-self-tag_of-2.true ∙ c.tag_of-2.ensures) c.if-self-at.false
