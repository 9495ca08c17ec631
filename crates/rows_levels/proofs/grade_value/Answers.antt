-- `rows_levels::grade_value` meets its contract: a number is small.
-- Assumes nothing.
use native.Mathlib.Omega.{arith}
use mathlib.Core.Path.{sym, ◌∙◌, subst}
use Prim.Native.Nat.{◌<◌, ◌^◌}
use lib.IntN.{ℤ}
use lib.Signed.{mag}
use Rattle.number_decimal.proofs.Small.{number_small}
use Rattle.number_signed.proofs.Signs.{back, small-fits}
use Rattle.rows_levels.proofs.grade_value.Goals as goal

pub grade-requires : goal.grade-requires
grade-requires c =
    let z = c.in-Some.v in
    let small : mag z < 2 ^ 62 = omega (arith, number_small _ _ (sym c.read_number.ensures ∙ c.in-Some.is)) in
    subst (λ (z : ℤ). mag z < 2 ^ 62) (sym (back z (small-fits z small))) small
