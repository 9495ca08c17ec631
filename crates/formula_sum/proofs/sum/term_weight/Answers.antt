-- `formula_sum::sum::term_weight` meets its contract: a count of at most 9999 and a light weight have a small product.
-- Assumes nothing.
use native.Mathlib.Omega.{arith}
use mathlib.Core.Path.{sym, ap, subst, ◌∙◌}
use Prim.Native.Nat.{◌≤◌, ◌*◌}
use Rattle.formula_terms.specs.Term.{most_count}
use Rattle.formula_elements.specs.Elements.{heaviest}
use Rattle.formula_sum.specs.Sum.{SmallCount, times, term_weight}
use Rattle.formula_elements.proofs.Weights.{Light, weight-light}
use Rattle.formula_sum.proofs.Sums.{product_small}
use Rattle.formula_sum.proofs.sum.term_weight.Goals as goal
use Rattle.formula_sum.proofs.sum.term_weight.Goals.{In_ok-w}

small : (c : In_ok-w) → c.in_ok-t.t.count * c.in_ok-w.w ≤ most_count * heaviest
small c = product_small _ _ (subst SmallCount c.in_ok-t.was c.requires) (subst Light (sym c.weight_of.ensures ∙ c.in_ok-w.was) (weight-light _ _))

pub overflow_mul-result : goal.overflow_mul-result
overflow_mul-result c = omega (arith, small (goal.at.overflow_mul-result c).In_ok-w)

pub returns : goal.returns
returns c =
    (sym (ap term_weight c.in_ok-t.was ∙ ap (times c.in_ok-t.t.count) (sym c.weight_of.ensures ∙ c.in_ok-w.was)), small (goal.at.returns c).In_ok-w)
