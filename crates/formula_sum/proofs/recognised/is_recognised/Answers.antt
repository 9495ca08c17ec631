-- `formula_sum::recognised::is_recognised` meets its contract: each arm is a case of `is_recognised`.
-- Assumes nothing.
use mathlib.Core.Path.{sym, ap, ◌∙◌}
use Rattle.formula_sum.specs.Recognised.{is_recognised}
use Rattle.formula_sum.proofs.recognised.is_recognised.Goals as goal

pub returns-in-Some : goal.returns-in-Some
returns-in-Some c = c.is_element.ensures ∙ sym (ap is_recognised c.in-Some.is)
