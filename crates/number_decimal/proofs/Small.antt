-- A number is below 10 ^ 9, so below 10 ^ 15 millionths, since it has at most nine digits; and it is at most 17 bytes long.
-- Assumes nothing.
use Rattle.std.specs.Prelude.{Option, Some, None}
use mathlib.Core.Path.{◌≡◌, sym, ap, ◌∙◌}
use mathlib.Core.Bool.{Bool, true, false, cond}
use mathlib.Core.List.{List, [], ◌∷◌, ◌++◌}
use Prim.Native.Nat.{ℕ, zero, suc, ◌+◌, ◌-◌, ◌*◌, ◌^◌, ◌≤◌, ◌<◌}
use native.Mathlib.Nat.{mul-lt-mul_of_pos_right, add-sub_of_le, one-le-pow}
use native.Mathlib.Omega.{arith}
use lib.Dec.{lit<}
use lib.ListN.{length, length-append}
use lib.Pow.{pow-add}
use lib.IntN.{ℤ, pos, neg_ℤ}
use lib.Signed.{mag}
use Rattle.number_decimal.specs.Digits.{most_digits, most_places, most_uncertain, most_bytes, value_of, scale_of}
use Rattle.number_decimal.specs.Reading.{reading_of}
use Rattle.number_decimal.specs.Grammar.{SignText, PointText, UncertaintyText, IsSize, IsNumber}
use Rattle.number_decimal.proofs.Values.{ten-le, value-below}
use Rattle.number_decimal.proofs.Sound.{number_is}

pub size_small : {t : List ℕ} {m : ℕ} → IsSize t m → m < 10 ^ 15
size_small h =
    let k = length h.fraction in
    let whole : value_of h.before < 10 ^ length h.before = omega (arith, value-below 0 h.before h.before_digits) in
    let part : value_of h.fraction < 10 ^ k = omega (arith, value-below 0 h.fraction h.fraction_digits) in
    let most : length h.before ≤ most_digits = omega arith in
    let scaled : 10 ^ k * scale_of k ≡ 10 ^ most_places = sym (pow-add 10 k (most_places - k)) ∙ ap (λ (n : ℕ). 10 ^ n) (add-sub_of_le h.places) in
    omega (arith, ten-le (length h.before) most_digits most, mul-lt-mul_of_pos_right part (one-le-pow (most_places - k) 10 (lit< tt)))

sign-keeps : (negative : Bool) (m : ℕ) → mag (cond negative (neg_ℤ (pos m)) (pos m)) ≤ m
sign-keeps true zero = omega arith
sign-keeps true (suc m) = omega arith
sign-keeps false m = omega arith

pub number_small : (t : List ℕ) (z : ℤ) → reading_of t ≡ Some z → mag z < 10 ^ 15
number_small t z e =
    let h = number_is t z e in
    rw h.worth (omega (arith, sign-keeps h.negative h.size, size_small h.is_size))

-- the lengths of its parts

sign-short : {negative : Bool} {s : List ℕ} → SignText negative s → length s ≤ 1
sign-short SignText.unsigned = omega arith
sign-short SignText.plus = omega arith
sign-short SignText.minus = omega arith

point-short : {before fraction pointed : List ℕ} → PointText before fraction pointed → length pointed ≤ 1 + length fraction
point-short (PointText.whole before some) = omega arith
point-short (PointText.each_side before fraction some one) = omega arith
point-short (PointText.before_only before some) = omega arith
point-short (PointText.after_only fraction one) = omega arith

uncertainty-short : {t : List ℕ} → UncertaintyText t → length t ≤ most_uncertain + 2
uncertainty-short UncertaintyText.none = omega arith
uncertainty-short (UncertaintyText.bracket u a some few) = omega (arith, length-append u (41 ∷ []))

number_short : {t : List ℕ} {z : ℤ} → IsNumber t z → length t ≤ most_bytes
number_short h =
    let s = h.is_size in
    let whole : length (h.sign ++ h.rest) ≤ most_bytes =
    omega
    (arith, length-append h.sign h.rest, ap length s.text, length-append s.before (s.pointed ++ s.tail), length-append s.pointed s.tail, sign-short h.is_sign, point-short s.is_point, uncertainty-short s.is_uncertainty, s.few) in
    omega (arith, ap length h.text)

-- a longer text is none
pub long-none : (t : List ℕ) (r : Option ℤ) → reading_of t ≡ r → most_bytes < length t → None ≡ reading_of t
long-none t (Some z) e h = absurd (omega (arith, number_short (number_is t z e)))
long-none t None e h = sym e
