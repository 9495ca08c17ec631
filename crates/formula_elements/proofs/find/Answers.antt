use mathlib.Core.Path.{sym, ◌∙◌}
use Rattle.formula_elements.specs.Elements.{same_symbol}
use Rattle.formula_elements.proofs.Places.{start, found, more, end}
use Rattle.formula_elements.proofs.find.Goals as goal

pub loop-k-init : goal.loop-k-init
loop-k-init c = start _ _ _

pub returns-then-eq : goal.returns-then-eq
unfolding same_symbol
returns-then-eq c = sym (found _ _ _ c.loop-k.invariant c.loop-k-test.true (sym c.eq.ensures ∙ c.if-eq.true))

pub loop-k-preserved : goal.loop-k-preserved
unfolding same_symbol
loop-k-preserved c = more _ _ _ c.loop-k.invariant c.loop-k-test.true (sym c.eq.ensures ∙ c.if-eq.false)

pub returns : goal.returns
returns c = sym (end _ _ _ c.loop-k.invariant c.loop-k-test.false)
