-- `formula_class::class_of` meets its contract: each return has the tests of `formula_class` on its way.
-- Assumes nothing.
use Rattle.formula_elements.specs.Elements.{carbon, hydrogen}
use mathlib.Core.Path.{◌≡◌, sym, ◌∙◌}
use mathlib.Core.Bool.{true}
use Rattle.formula_symbols.specs.Symbols.{has_term}
use Rattle.formula_symbols.specs.declared.Wanted.TheVariants.{Element}
use Rattle.formula_class.specs.Class.{formula_class}
use Rattle.formula_class.proofs.class_of.Goals as goal
use Rattle.formula_class.proofs.class_of.Goals.{Else-not-has_term, Else-not-has_term-2}

with_carbon : (c : Else-not-has_term) → has_term (Element carbon) c.args.s.now ≡ true
with_carbon c = sym c.has_term.ensures ∙ c.if-not-has_term.false

with_hydrogen : (c : Else-not-has_term-2) → has_term (Element hydrogen) c.args.s.now ≡ true
with_hydrogen c = sym c.has_term-2.ensures ∙ c.if-not-has_term-2.false

pub returns-then-not-has_term : goal.returns-then-not-has_term
unfolding formula_class
returns-then-not-has_term c = simp (sym c.has_term.ensures ∙ c.if-not-has_term.true)

pub returns-then-not-has_term-2 : goal.returns-then-not-has_term-2
unfolding formula_class
returns-then-not-has_term-2 c = simp ((with_carbon (goal.at.returns-then-not-has_term-2 c).Else-not-has_term), sym c.has_term-2.ensures ∙ c.if-not-has_term-2.true)

pub returns-then-has_term : goal.returns-then-has_term
unfolding formula_class
returns-then-has_term c = simp ((with_carbon (goal.at.returns-then-has_term c).Else-not-has_term), (with_hydrogen (goal.at.returns-then-has_term c).Else-not-has_term-2), sym c.has_term-3.ensures ∙ c.if-has_term.true)

pub returns-else-has_term : goal.returns-else-has_term
unfolding formula_class
returns-else-has_term c = simp ((with_carbon (goal.at.returns-else-has_term c).Else-not-has_term), (with_hydrogen (goal.at.returns-else-has_term c).Else-not-has_term-2), sym c.has_term-3.ensures ∙ c.if-has_term.false)
