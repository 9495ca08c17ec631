-- Signs and fractions in the words of document 02, No. 5: "at most one signed fraction .., numerator 1 to 7 below its denominator 2, 3, 4, 6 or 8".
-- Assumes nothing.
use Rattle.std.specs.Prelude.{ℕ, ◌+◌, ◌*◌, ◌≤◌, ◌<◌, ◌≡◌, Bool, cond, List, [], ◌∷◌, ℤ, pos, neg_ℤ}

-- "translations in 24ths": so many are one
abbrev pub one_in24ths : ℕ
one_in24ths = 24

-- "signed": the byte of a sign, by whether it is a minus
abbrev pub sign_byte : Bool → ℕ
sign_byte minus = cond minus 45 43

-- the number n with that sign
abbrev pub with_sign : Bool → ℕ → ℤ
with_sign minus n = cond minus (neg_ℤ (pos n)) (pos n)

-- "its denominator 2, 3, 4, 6 or 8"
pub data IsDenominator : ℕ → Type 0 where
  two : IsDenominator 2
  three : IsDenominator 3
  four : IsDenominator 4
  six : IsDenominator 6
  eight : IsDenominator 8

-- a fraction without its sign, and how many 24ths it is: "numerator 1 to 7 below its denominator", each one digit
pub record IsFraction (t : List ℕ) (size : ℕ) : Type 0 where
  pub numerator : ℕ
  pub denominator : ℕ
  pub text : t ≡ (48 + numerator) ∷ (47 ∷ ((48 + denominator) ∷ []))
  pub least : 1 ≤ numerator
  pub most : numerator ≤ 7
  pub below : numerator < denominator
  pub is_denominator : IsDenominator denominator
  pub worth : size * denominator ≡ one_in24ths * numerator
