-- Document 02, No. 4, "all other levels of lines accepted before stay": what was a number before is one, and the same one; and what is new begins or ends
-- with its point. Assumes nothing.
use Rattle.std.specs.Prelude.{Some}
use mathlib.Core.Path.{◌≡◌, refl}
use mathlib.Core.Logic.{◌⊎◌, inl, inr, ⊎_elim}
use mathlib.Core.List.{List, [], ◌∷◌}
use Prim.Native.Nat.{ℕ}
use lib.IntN.{ℤ}
use Rattle.number_decimal.specs.Reading.{reading_of}
use Rattle.number_decimal.specs.Grammar.{PointText, SizeBy, NumberBy, IsSize, IsNumber}
use Rattle.number_decimal.specs.Before.{PointBefore, NumberBefore}
use Rattle.number_decimal.proofs.Complete.{number-taken}

-- a number whose point may stand there by another rule too
module _ {P Q : List ℕ → List ℕ → List ℕ → Type 0} where
  abbrev pub resize : {t : List ℕ} {m : ℕ} (s : SizeBy P t m) → Q s.before s.fraction s.pointed → SizeBy Q t m
  resize s q =
      record {
        before = s.before;
        fraction = s.fraction;
        pointed = s.pointed;
        tail = s.tail;
        text = s.text;
        before_digits = s.before_digits;
        fraction_digits = s.fraction_digits;
        places = s.places;
        few = s.few;
        is_point = q;
        is_uncertainty = s.is_uncertainty;
        worth = s.worth;
      }

  renumber : {t : List ℕ} {z : ℤ} (h : NumberBy P t z) → SizeBy Q h.rest h.size → NumberBy Q t z
  renumber h s = record { negative = h.negative; sign = h.sign; rest = h.rest; size = h.size; text = h.text; is_sign = h.is_sign; is_size = s; worth = h.worth }

pub point-stays : {before fraction pointed : List ℕ} → PointBefore before fraction pointed → PointText before fraction pointed
point-stays (PointBefore.whole before some) = PointText.whole before some
point-stays (PointBefore.each_side before fraction some one) = PointText.each_side before fraction some one

-- every number of before is a number, worth the same
pub number-stays : (t : List ℕ) (z : ℤ) → NumberBefore t z → IsNumber t z
number-stays t z h = renumber h (resize h.is_size (point-stays h.is_size.is_point))

-- and is read as that
pub reads-as-before : (t : List ℕ) (z : ℤ) → NumberBefore t z → reading_of t ≡ Some z
reads-as-before t z h = number-taken t z (number-stays t z h)

-- the point stands at an end of the digits
abbrev pub PointAtEnd : {t : List ℕ} {m : ℕ} → IsSize t m → Type 0
PointAtEnd s = (s.before ≡ []) ⊎ (s.pointed ≡ 46 ∷ [])

new_by : {before fraction pointed : List ℕ} → PointText before fraction pointed → PointBefore before fraction pointed ⊎ ((before ≡ []) ⊎ (pointed ≡ 46 ∷ []))
new_by (PointText.whole before some) = inl (PointBefore.whole before some)
new_by (PointText.each_side before fraction some one) = inl (PointBefore.each_side before fraction some one)
new_by (PointText.before_only before some) = inr (inr refl)
new_by (PointText.after_only fraction one) = inr (inl refl)

-- every number was one before, or has its point at an end
pub only-ends-are-new : {t : List ℕ} {z : ℤ} (h : IsNumber t z) → NumberBefore t z ⊎ PointAtEnd h.is_size
only-ends-are-new h = ⊎_elim (λ p. inl (renumber h (resize h.is_size p))) (λ e. inr e) (new_by h.is_size.is_point)
