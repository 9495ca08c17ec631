-- `formula_elements::weight_of` meets its contract: the weight stands where the symbol does.
-- Assumes nothing.
use native.Mathlib.Omega.{arith}
use mathlib.Core.Path.{◌≡◌, sym, ap, ◌∙◌}
use Prim.Native.Nat.{◌<◌}
use Rattle.formula_elements.specs.Elements.{weights, weight_of}
use Rattle.formula_elements.proofs.Places.{place-within}
use Rattle.formula_elements.proofs.Weights.{symbols_in, values_in, weight_at, weight-place}
use Rattle.formula_elements.proofs.weight_of.Goals as goal
use Rattle.formula_elements.proofs.weight_of.Goals.{After-find, In_ok-k}

-- the weight at the place that was found
weighed : (c : After-find) → weight_of c.args.symbol.first c.args.symbol.second ≡ weight_at (values_in weights) c.find.result
unfolding weight_of weights symbols_in
weighed c = weight-place weights _ _ ∙ ap (weight_at (values_in weights)) (sym c.find.ensures)

within : (c : In_ok-k) → c.in_ok-k.k < 25
unfolding weights symbols_in
within c =
    let h = place-within (symbols_in weights) _ _ _ (sym c.find.ensures ∙ c.in_ok-k.was) in
    omega arith

pub returns-in_err-k : goal.returns-in_err-k
returns-in_err-k c = c.from_residual.ensures ∙ sym (weighed (goal.at.returns-in_err-k c).After-find ∙ ap (weight_at (values_in weights)) c.in_err-k.was)

pub offset_bounds-k : goal.offset_bounds-k
offset_bounds-k c = omega (arith, within (goal.at.offset_bounds-k c).In_ok-k)

pub bounds-k : goal.bounds-k
bounds-k c = within (goal.at.bounds-k c).In_ok-k

pub returns : goal.returns
unfolding values_in weights
returns c = sym (weighed (goal.at.returns c).After-find ∙ ap (weight_at (values_in weights)) c.in_ok-k.was)
