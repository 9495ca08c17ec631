-- A number in the documents' words. Document 01, "A line, a number": "an optional sign, 1 to 9 digits before any bracket, an optional point with at
-- least one digit on each side and at most 6 after it, then optionally 1 to 4 digits of uncertainty in round brackets".
-- Document 02, No. 4: "Numbers shall allow a point with digits on one side only".
-- Assumes nothing.
use Rattle.std.specs.Prelude.{ℕ, ◌+◌, ◌*◌, ◌≤◌, ◌≡◌, Bool, true, false, cond, List, [], ◌∷◌, ◌++◌, length, ℤ, pos, neg_ℤ, Option, Some, None}
use Rattle.text.specs.Run.{all, is_digit}
use Rattle.number_decimal.specs.Digits.{most_digits, most_places, most_uncertain, value_of, scale_of}

-- "an optional sign", and whether it is a minus
pub data SignText : Bool → List ℕ → Type 0 where
  unsigned : SignText false []
  plus : SignText false (43 ∷ [])
  minus : SignText true (45 ∷ [])

-- "an optional point with at least one digit on each side", and "a point with digits on one side only": the digits before it, those after it, and the
-- text that follows the digits before it
pub data PointText : List ℕ → List ℕ → List ℕ → Type 0 where
  whole : (before : List ℕ) → 1 ≤ length before → PointText before [] []
  each_side : (before fraction : List ℕ) → 1 ≤ length before → 1 ≤ length fraction → PointText before fraction (46 ∷ fraction)
  before_only : (before : List ℕ) → 1 ≤ length before → PointText before [] (46 ∷ [])
  after_only : (fraction : List ℕ) → 1 ≤ length fraction → PointText [] fraction (46 ∷ fraction)

-- "then optionally 1 to 4 digits of uncertainty in round brackets"
pub data UncertaintyText : List ℕ → Type 0 where
  none : UncertaintyText []
  bracket : (u : List ℕ) → all is_digit u ≡ true → 1 ≤ length u → length u ≤ most_uncertain → UncertaintyText (40 ∷ (u ++ (41 ∷ [])))

-- the text after the sign, and how many millionths it is worth; the uncertainty does not count. Where its point may stand is told apart.
pub record SizeBy (Point : List ℕ → List ℕ → List ℕ → Type 0) (t : List ℕ) (m : ℕ) : Type 0 where
  pub before : List ℕ
  pub fraction : List ℕ
  pub pointed : List ℕ
  pub tail : List ℕ
  pub text : t ≡ before ++ (pointed ++ tail)
  pub before_digits : all is_digit before ≡ true
  pub fraction_digits : all is_digit fraction ≡ true
  pub places : length fraction ≤ most_places
  pub few : length before + length fraction ≤ most_digits
  pub is_point : Point before fraction pointed
  pub is_uncertainty : UncertaintyText tail
  pub worth : m ≡ value_of before * scale_of 0 + value_of fraction * scale_of (length fraction)

-- a number, and the signed decimal that it denotes, in millionths
pub record NumberBy (Point : List ℕ → List ℕ → List ℕ → Type 0) (t : List ℕ) (z : ℤ) : Type 0 where
  pub negative : Bool
  pub sign : List ℕ
  pub rest : List ℕ
  pub size : ℕ
  pub text : t ≡ sign ++ rest
  pub is_sign : SignText negative sign
  pub is_size : SizeBy Point rest size
  pub worth : z ≡ cond negative (neg_ℤ (pos size)) (pos size)

abbrev pub IsSize : List ℕ → ℕ → Type 0
IsSize = SizeBy PointText

abbrev pub IsNumber : List ℕ → ℤ → Type 0
IsNumber = NumberBy PointText

-- "The reading of a number answers either the number or that there is none"
abbrev pub ReadAs : List ℕ → Option ℤ → Type 0
ReadAs t (Some z) = IsNumber t z
ReadAs t None = (z : ℤ) → IsNumber t z → ⊥
