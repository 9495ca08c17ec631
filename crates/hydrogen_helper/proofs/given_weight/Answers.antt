-- `hydrogen_helper::given_weight` meets its contract: a number that was read is small.
-- Assumes nothing.
use Rattle.std.specs.Prelude.{Some}
use native.Mathlib.Omega.{arith}
use mathlib.Core.Path.{◌≡◌, sym, ap, subst⁻¹, ◌∙◌}
use Prim.Native.Nat.{ℕ, ◌^◌, ◌<◌}
use lib.IntN.{nat_abs}
use Rattle.number_signed.proofs.Signs.{back, small-fits}
use Rattle.number_decimal.specs.Reading.{reading_of}
use Rattle.number_decimal.proofs.Small.{number_small}
use Rattle.hydrogen_helper.specs.Helper.{size_or, given_weight}
use Rattle.hydrogen_helper.proofs.Bases.{size_small}
use Rattle.hydrogen_helper.proofs.given_weight.Goals as goal
use Rattle.hydrogen_helper.proofs.given_weight.Goals.{In-Some}

read : (c : In-Some) → reading_of c.args.weight.now ≡ Some c.in-Some.given
read c = sym c.read_number.ensures ∙ c.in-Some.is

pub returns-in_default : goal.returns-in_default
unfolding given_weight
returns-in_default c = (sym (ap size_or (sym c.read_number.ensures ∙ c.in_default.is)), omega arith)

pub returns : goal.returns
unfolding given_weight
returns c =
    let z = c.in-Some.given in
    let small = number_small _ _ (read (goal.at.returns c).In-Some) in
    let same = c.magnitude.ensures ∙ ap nat_abs (back z (small-fits z (omega arith))) in
    (same ∙ sym (ap size_or (read (goal.at.returns c).In-Some)), subst⁻¹ (λ (n : ℕ). n < 10 ^ 16) same (size_small z small))
