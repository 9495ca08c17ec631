-- `formula_elements::is_metal` meets its contract: the code's table of symbols that are no metals is the definition's.
-- Assumes nothing.
use mathlib.Core.Path.{sym, ◌∙◌}
use mathlib.Core.Bool.{not-not}
use Rattle.formula_elements.specs.Elements.{not_metals, is_metal}
use Rattle.formula_elements.proofs.is_metal.Goals as goal

pub returns-then-is_element : goal.returns-then-is_element
unfolding is_metal not_metals
returns-then-is_element c = simp (sym c.is_element.ensures ∙ c.if-is_element.true, sym c.find.ensures, c.is_none.ensures) (sym (not-not _))

pub returns-else-is_element : goal.returns-else-is_element
unfolding is_metal
returns-else-is_element c = simp (sym c.is_element.ensures ∙ c.if-is_element.false) c.if-is_element.false
