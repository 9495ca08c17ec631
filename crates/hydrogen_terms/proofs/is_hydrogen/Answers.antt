-- `hydrogen_terms::is_hydrogen` meets its contract: each arm is a case of `is_hydrogen`.
-- Assumes nothing.
use mathlib.Core.Path.{◌∙◌}
use Rattle.formula_elements.specs.Elements.{same_symbol}
use Rattle.hydrogen_terms.proofs.is_hydrogen.Goals as goal

pub returns : goal.returns
unfolding same_symbol
returns c = c.eq.ensures ∙ simp c.in-Some.is
