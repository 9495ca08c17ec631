-- `formula_elements::find_element` meets its contract: the code's table of symbols is the definition's.
-- Assumes nothing.
use Rattle.formula_elements.specs.Elements.{symbols, element_of}
use Rattle.formula_elements.proofs.find_element.Goals as goal

pub returns : goal.returns
unfolding element_of symbols
returns c = c.find.ensures
