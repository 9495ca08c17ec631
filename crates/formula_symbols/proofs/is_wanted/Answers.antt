-- `formula_symbols::is_wanted` meets its contract: each arm is a case of `is_wanted`.
-- Assumes nothing.
use mathlib.Core.Path.{◌∙◌}
use Rattle.formula_elements.specs.Elements.{same_symbol}
use Rattle.formula_symbols.proofs.is_wanted.Goals as goal

pub returns-in-Element : goal.returns-in-Element
unfolding same_symbol
returns-in-Element c = c.eq.ensures ∙ simp (c.in-Some.is, c.in-Element.is)
