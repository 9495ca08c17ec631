-- `hydrogen_check::check` meets its contract: each return is a case of `check_of`.
-- Assumes nothing.
use mathlib.Core.Path.{sym, ◌∙◌}
use Rattle.hydrogen_check.specs.Check.{check_of}
use Rattle.hydrogen_check.proofs.check.Goals as goal

pub returns-then-not-is_start : goal.returns-then-not-is_start
unfolding check_of
returns-then-not-is_start c = simp (sym c.is_start.ensures ∙ c.if-not-is_start.true)

pub returns-then-not-is_right : goal.returns-then-not-is_right
unfolding check_of
returns-then-not-is_right c = simp (sym c.is_start.ensures ∙ c.if-not-is_start.false, sym c.is_right.ensures ∙ c.if-not-is_right.true)

pub returns : goal.returns
unfolding check_of
returns c = simp (sym c.is_start.ensures ∙ c.if-not-is_start.false, sym c.is_right.ensures ∙ c.if-not-is_right.false)
