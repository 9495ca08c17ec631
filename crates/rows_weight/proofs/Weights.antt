-- Weights as rows 4 and 5 judge them: below zero or not, and small.
-- Assumes nothing.
use mathlib.Core.Path.{◌≡◌, ap, ◌∙◌}
use mathlib.Core.Bool.{Bool, true, false}
use Prim.Native.Nat.{ℕ, ◌^◌, ◌≤◌, ◌<◌}
use native.Mathlib.Omega.{arith}
use lib.Dec.{lit≤}
use lib.IntN.{ℤ, pos, negsuc, nat_abs}
use lib.Signed.{mag}
use mir.Syntax.{w64}
use mir.Val.{SFits, to_z, of_z}
use Rattle.number_signed.proofs.Signs.{back}
use Rattle.rows_levels.specs.Bounds.{bounds, bounds_of}
use Rattle.rows_levels.specs.declared.Bounds.{Bounds}

-- the absolute value of a small number is small
pub abs-small : (z : ℤ) → mag z < 10 ^ 15 → nat_abs z ≤ 10 ^ 15
abs-small (pos n) h = omega arith
abs-small (negsuc n) h = omega arith

-- as the code has it
pub weight-small : (z : ℤ) (g : ℕ) → SFits w64 z → g ≡ nat_abs (to_z w64 (of_z w64 z)) → mag z < 10 ^ 15 → g ≤ 10 ^ 15
weight-small z g f e h = omega (arith, e ∙ ap nat_abs (back z f), abs-small z h)

-- the bounds of row 4 are small
pub record SmallRatios (p : Bounds) : Type 0 where
  pub a_small : p.a ≤ 110
  pub b-small : p.b ≤ 110
  pub c-small : p.c ≤ 110

pub ratios-small : (second : Bool) → SmallRatios (bounds_of 4 second)
unfolding bounds
ratios-small true = record { a_small = lit≤ tt; b-small = lit≤ tt; c-small = lit≤ tt }
ratios-small false = record { a_small = lit≤ tt; b-small = lit≤ tt; c-small = lit≤ tt }
