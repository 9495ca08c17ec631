-- `hydrogen_helper::propose` meets its contract: the count in closed form is the smallest right one, or none is right.
-- Assumes nothing.
use mathlib.Core.Path.{refl, sym, ap, subst⁻¹, ◌∙◌}
use Prim.Native.Nat.{ℕ}
use Rattle.line_quotes.specs.Quoted.{text_of}
use Rattle.hydrogen_right.proofs.Starts.{start_is}
use Rattle.hydrogen_right.proofs.Closed.{Smallest, smallest}
use Rattle.hydrogen_helper.specs.Helper.{other_weight, given_weight, first_count, helper_of}
use Rattle.hydrogen_helper.proofs.Firsts.{found, not_found}
use Rattle.hydrogen_helper.proofs.Bases.{given_is, base-is}
use Rattle.hydrogen_helper.proofs.propose.Goals as goal
use Rattle.hydrogen_helper.proofs.propose.Goals.{After-first_count-n}

-- the count that is tried
tried : (c : After-first_count-n) → Smallest c.args.formula.now c.args.weight.now c.first_count-n.result
unfolding first_count
tried c =
    let a = c.args in
    let f = a.formula.now in
    let w = a.weight.now in
    let start = start_is f w (sym c.is_start.ensures ∙ c.if-not-is_start.false) in
    let base = c.other_weight-base.ensures.0 ∙ ap other_weight c.text_of.ensures in
    let is = c.first_count-n.ensures ∙ ap (λ (b : ℕ). first_count b c.given_weight.result) base ∙ ap (first_count (other_weight (text_of f))) c.given_weight.ensures.0 in
    subst⁻¹ (Smallest f w) is (smallest f w start (other_weight (text_of f)) (given_weight w) (base-is f w start) (given_is w) _ refl)

pub returns-then-not-is_start : goal.returns-then-not-is_start
unfolding helper_of
returns-then-not-is_start c = simp (sym c.is_start.ensures ∙ c.if-not-is_start.true)

pub returns-then-not-is_right : goal.returns-then-not-is_right
unfolding helper_of
returns-then-not-is_right c =
    simp (sym c.is_start.ensures ∙ c.if-not-is_start.false)
    (sym (not_found c.args.formula.now c.args.weight.now c.first_count-n.result (tried (goal.at.returns-then-not-is_right c).After-first_count-n) (sym c.is_right.ensures ∙ c.if-not-is_right.true)))

pub returns : goal.returns
unfolding helper_of
returns c =
    simp (sym c.is_start.ensures ∙ c.if-not-is_start.false)
    (sym (found c.args.formula.now c.args.weight.now c.first_count-n.result (tried (goal.at.returns c).After-first_count-n) (sym c.is_right.ensures ∙ c.if-not-is_right.false)))
