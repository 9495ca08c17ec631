-- Laws of `i64`: a size and its negative, and what a sign test, a negation and a comparison ask.
-- Assumes nothing.
use mathlib.Core.Path.{◌≡◌, refl, sym, ap, subst, ◌∙◌}
use mathlib.Core.Bool.{false, true≢false}
use Prim.Native.Nat.{ℕ, zero, suc, ◌^◌, ◌<◌}
use native.Mathlib.Omega.{arith}
use lib.Dec.{lit<}
use lib.IntN.{ℤ, pos, negsuc, neg_ℤ, nat_abs, ◌-ℤ◌, +ℤ_idl}
use lib.Signed.{mag, lt_z}
use mir.Syntax.{w64}
use mir.Val.{SFits, to_z, of_z}
use mir.Facts.{to_z_pos, to_z-of_z}

-- what an `i64` holds, read back
pub back : (z : ℤ) → SFits w64 z → to_z w64 (of_z w64 z) ≡ z
back z f = to_z-of_z {w = w64} f

pub small-fits : (z : ℤ) → mag z < 2 ^ 62 → SFits w64 z
small-fits z h = record { sfits = omega arith }

pub fits-pos : (m : ℕ) → m < 2 ^ 63 → SFits w64 (pos m)
fits-pos m h = record { sfits = h }

fits_neg : (m : ℕ) → m < 2 ^ 63 → SFits w64 (neg_ℤ (pos m))
fits_neg zero h = record { sfits = lit< tt }
fits_neg (suc m) h = record { sfits = omega arith }

-- `0 - v`, where v holds m
minus_is : (m : ℕ) → m < 2 ^ 63 → pos 0 -ℤ to_z w64 m ≡ neg_ℤ (pos m)
minus_is m h = ap (λ (z : ℤ). pos 0 -ℤ z) (to_z_pos w64 h) ∙ +ℤ_idl (neg_ℤ (pos m))

pub minus-fits : (m : ℕ) → m < 2 ^ 63 → SFits w64 (pos 0 -ℤ to_z w64 m)
minus-fits m h = subst (SFits w64) (sym (minus_is m h)) (fits_neg m h)

pub minus-back : (m : ℕ) → m < 2 ^ 63 → to_z w64 (of_z w64 (pos 0 -ℤ to_z w64 m)) ≡ neg_ℤ (pos m)
minus-back m h = back _ (minus-fits m h) ∙ minus_is m h

-- the absolute value of a small number is small
pub abs-less : (z : ℤ) → mag z < 2 ^ 62 → nat_abs z < 2 ^ 63
abs-less (pos n) h = omega arith
abs-less (negsuc n) h = omega arith

-- a number that is not below zero is its absolute value
not-below : (z : ℤ) → lt_z z (pos 0) ≡ false → z ≡ pos (nat_abs z)
not-below (pos n) e = refl
not-below (negsuc n) e = absurd (true≢false e)

-- a number that is not below zero is its absolute value
pub above : (z : ℤ) → SFits w64 z → lt_z (to_z w64 (of_z w64 z)) (pos 0) ≡ false → z ≡ pos (nat_abs z)
above z f e = not-below z (rw (back z f) at e)
