-- Laws of `unit_of`: it divides one by a denominator, and a fraction below one is less than 24 24ths.
-- Assumes nothing.
use mathlib.Core.Path.{◌≡◌, refl, sym, ap, ◌∙◌}
use mathlib.Core.Bool.{Bool, true, false}
use Prim.Native.Nat.{ℕ, zero, suc, ◌+◌, ◌-◌, ◌*◌, ◌≤◌, ◌<◌}
use native.Mathlib.Nat.{mul-le-mul_right}
use native.Mathlib.Omega.{arith}
use borrow.Author.Tests.{eqb-true}
use lib.Dec.{eqb}
use Rattle.std.specs.Prelude.{Some, None}
use Rattle.std.proofs.lemmas.Option.{none-some, same_Some}
use Rattle.symmetry_fractions.specs.Grammar.{one_in24ths, IsDenominator}
use Rattle.symmetry_fractions.specs.Reading.{unit_of}

-- a byte is the digit of a denominator, whose unit is one divided by it, or it has no unit
pub data UnitOf (b : ℕ) : Type 0 where
  digit : (d u : ℕ) → IsDenominator d → b ≡ 48 + d → unit_of b ≡ Some u → u * d ≡ one_in24ths → UnitOf b
  none : unit_of b ≡ None → UnitOf b

module _ (b : ℕ) where
  unit-by : (two three four six eight : Bool) → eqb b 50 ≡ two → eqb b 51 ≡ three → eqb b 52 ≡ four → eqb b 54 ≡ six → eqb b 56 ≡ eight → UnitOf b
  unfolding unit_of
  unit-by true _ _ _ _ h _ _ _ _ = let e = eqb-true b 50 h in UnitOf.digit 2 12 IsDenominator.two e (ap unit_of e) refl
  unit-by false true _ _ _ _ h _ _ _ = let e = eqb-true b 51 h in UnitOf.digit 3 8 IsDenominator.three e (ap unit_of e) refl
  unit-by false false true _ _ _ _ h _ _ = let e = eqb-true b 52 h in UnitOf.digit 4 6 IsDenominator.four e (ap unit_of e) refl
  unit-by false false false true _ _ _ _ h _ = let e = eqb-true b 54 h in UnitOf.digit 6 4 IsDenominator.six e (ap unit_of e) refl
  unit-by false false false false true _ _ _ _ h = let e = eqb-true b 56 h in UnitOf.digit 8 3 IsDenominator.eight e (ap unit_of e) refl
  unit-by false false false false false p q r s t = UnitOf.none (simp (p, q, r, s, t))

  pub unit-of : UnitOf b
  unit-of = unit-by (eqb b 50) (eqb b 51) (eqb b 52) (eqb b 54) (eqb b 56) refl refl refl refl refl

below_one : (n d u : ℕ) → n < d → u * d ≡ one_in24ths → n * u < one_in24ths
below_one n d zero l e = omega arith
below_one n d (suc u) l e = let h : n * suc u + suc u ≤ d * suc u = omega (arith, mul-le-mul_right (suc u) l) in omega arith

pub fraction_below_one : (a b u : ℕ) → 49 ≤ a → a < b → unit_of b ≡ Some u → (a - 48) * u < one_in24ths
fraction_below_one a b u m l h = by (unit-of b)
  where
    by : UnitOf b → (a - 48) * u < one_in24ths
    by (UnitOf.digit d v is e f w) = let same : u ≡ v = same_Some u v (sym h ∙ f) in rw same (below_one (a - 48) d v (omega arith) w)
    by (UnitOf.none e) = absurd (none-some u (sym e ∙ h))
