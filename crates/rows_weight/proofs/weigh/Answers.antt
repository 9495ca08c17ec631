-- `rows_weight::weigh` meets its contract: what was read is small.
-- Assumes nothing.
use Rattle.std.specs.Prelude.{Some}
use native.Mathlib.Omega.{arith}
use mathlib.Core.Path.{◌≡◌, sym, ap, subst, ◌∙◌}
use Prim.Native.Nat.{◌*◌, ◌^◌, ◌<◌}
use lib.IntN.{ℤ}
use lib.Signed.{mag}
use Rattle.number_decimal.specs.Reading.{reading_of}
use Rattle.number_signed.proofs.Signs.{back, small-fits}
use Rattle.number_decimal.proofs.Small.{number_small}
use Rattle.formula_sum.specs.Sum.{sum_of}
use Rattle.formula_sum.proofs.Small.{sum-small}
use Rattle.rows_weight.specs.declared.Weighed.{Weighed}
use Rattle.rows_weight.proofs.WeightCases.{weighed-both}
use Rattle.rows_weight.proofs.weigh.Goals as goal

pub overflow_mul-sum : goal.overflow_mul-sum
overflow_mul-sum c = let h = sum-small _ _ (sym c.sum_of.ensures ∙ c.in_ok-sum.was) in omega arith

pub returns : goal.returns
returns c =
    let z = c.in-Some.given in
    let s = c.in_ok-sum.field-0 in
    let read : reading_of c.args.weight.now ≡ Some z = sym c.read_number.ensures ∙ c.in-Some.is in
    let summed : sum_of c.args.t.now ≡ Some s = sym c.sum_of.ensures ∙ c.in_ok-sum.was in
    let small = number_small _ _ read in
    let light = sum-small _ _ summed in
    let same = back z (small-fits z (omega arith)) in
    (ap (λ (w : Weighed). Some w) (ap (λ (y : ℤ). record { given = y; sum = s * 1000 }) same) ∙ sym (weighed-both c.args.t.now c.args.weight.now z s read summed), (subst (λ (y : ℤ). mag y < 10 ^ 15) (sym same) small, omega arith))
