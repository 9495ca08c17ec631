-- `formula_order::rank_of` meets its contract: each return is a case of `rank`.
-- Assumes nothing.
use native.Mathlib.Omega.{arith}
use mathlib.Core.Path.{◌≡◌, sym, ◌∙◌}
use mathlib.Core.Bool.{true}
use Rattle.formula_elements.specs.Elements.{same_symbol}
use Rattle.formula_order.specs.Order.{rank}
use Rattle.formula_order.proofs.rank_of.Goals as goal
use Rattle.formula_order.proofs.rank_of.Goals.{Else-not-carbon}

carbon : (c : Else-not-carbon) → c.args.carbon ≡ true
carbon c = c.if-not-carbon.false

pub returns-then-not-carbon : goal.returns-then-not-carbon
unfolding rank same_symbol
returns-then-not-carbon c = (simp c.if-not-carbon.true, omega arith)

pub returns-then-eq : goal.returns-then-eq
unfolding rank same_symbol
returns-then-eq c = (simp ((carbon (goal.at.returns-then-eq c).Else-not-carbon), sym c.eq.ensures ∙ c.if-eq.true), omega arith)

pub returns-then-eq-2 : goal.returns-then-eq-2
unfolding rank same_symbol
returns-then-eq-2 c = (simp ((carbon (goal.at.returns-then-eq-2 c).Else-not-carbon), sym c.eq.ensures ∙ c.if-eq.false, sym c.eq-2.ensures ∙ c.if-eq-2.true), omega arith)

pub returns : goal.returns
unfolding rank same_symbol
returns c = (simp ((carbon (goal.at.returns c).Else-not-carbon), sym c.eq.ensures ∙ c.if-eq.false, sym c.eq-2.ensures ∙ c.if-eq-2.false), omega arith)
