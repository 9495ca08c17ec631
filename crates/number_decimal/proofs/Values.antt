-- Laws of `value_from`: of digits after others, of a bound by their number, and of the room that a word has for more of them.
-- Assumes nothing.
use mathlib.Core.Path.{◌≡◌, refl, sym, ap, ◌∙◌}
use mathlib.Core.Bool.{true}
use mathlib.Core.List.{List, [], ◌∷◌, ◌++◌}
use Prim.Native.Nat.{ℕ, suc, ◌+◌, ◌-◌, ◌*◌, ◌^◌, ◌≤◌, ◌<◌}
use native.Mathlib.Nat.{pow-succ', pow-le-pow_right, mul-le-mul, mul-le-mul_right, add-sub_of_le}
use native.Mathlib.Omega.{arith}
use lib.Dec.{lit<}
use lib.ListN.{length, get_or, take}
use lib.Pow.{pow-add}
use lib.Seq.{take-suc}
use Rattle.text.specs.Run.{all, is_digit}
use Rattle.number_decimal.specs.Digits.{most_bytes, most_places, value_from, value_of, scale_of}
use Rattle.number_decimal.proofs.Digits.{first-digit}

-- a word has room for the bytes of s from i on, where the digits before write v
abbrev pub Room : ℕ → List ℕ → ℕ → Type 0
Room v s i = (v + 1) * 10 ^ (length s - i) ≤ 10 ^ most_bytes

pub ten-le : (i j : ℕ) → i ≤ j → 10 ^ i ≤ 10 ^ j
ten-le i j h = pow-le-pow_right (lit< tt) h

-- digits after others
pub value-append : (acc : ℕ) (a b : List ℕ) → value_from acc (a ++ b) ≡ value_from (value_from acc a) b
unfolding value_from
value-append acc [] b = refl
value-append acc (d ∷ ds) b = value-append (acc * 10 + (d - 48)) ds b

-- one digit more
pub value-next : (acc : ℕ) (s : List ℕ) (i : ℕ) → i < length s → value_from acc (take (suc i) s) ≡ value_from acc (take i s) * 10 + (get_or s i 0 - 48)
unfolding value_from
value-next acc s i h = ap (value_from acc) (take-suc s i 0 h) ∙ value-append acc (take i s) (get_or s i 0 ∷ [])

shift_one : (acc d p v w u : ℕ) → v ≡ (acc * 10 + d) * p + u → w ≡ (0 * 10 + d) * p + u → v ≡ acc * (10 * p) + w
shift_one acc d p v w u e f = omega arith

-- acc stands before the digits
pub value-shift : (acc : ℕ) (ds : List ℕ) → value_from acc ds ≡ acc * 10 ^ length ds + value_of ds
unfolding value_from
value-shift acc [] = omega arith
value-shift acc (d ∷ ds) =
    rw (pow-succ' 10 (length ds))
    (shift_one acc (d - 48) (10 ^ length ds) _ _ (value_of ds) (value-shift (acc * 10 + (d - 48)) ds) (value-shift (0 * 10 + (d - 48)) ds))

joined_by : (v a b p s m : ℕ) → v ≡ a * p + b → p * s ≡ m → v * s ≡ a * m + b * s
joined_by v a b p s m e f = rw (e, sym f) (omega arith)

-- the digits before the point and those after it, read as one number whose last digit is worth its place
pub joined : (before fraction : List ℕ) → length fraction ≤ most_places
    → value_of (before ++ fraction) * scale_of (length fraction) ≡ value_of before * scale_of 0 + value_of fraction * scale_of (length fraction)
joined before fraction few =
    let k = length fraction in
    let scaled : 10 ^ k * scale_of k ≡ scale_of 0 = sym (pow-add 10 k (most_places - k)) ∙ ap (λ (n : ℕ). 10 ^ n) (add-sub_of_le few) in
    joined_by _ (value_of before) (value_of fraction) (10 ^ k) (scale_of k) (scale_of 0) (value-append 0 before fraction ∙ value-shift (value_of before) fraction) scaled

one_digit_more : (acc d p v : ℕ) → d ≤ 9 → v < (acc * 10 + d + 1) * p → v < (acc + 1) * (10 * p)
one_digit_more acc d p v h l = omega (arith, mul-le-mul_right p h)

-- n digits after acc write less than (acc + 1) * 10 ^ n
pub value-below : (acc : ℕ) (ds : List ℕ) → all is_digit ds ≡ true → value_from acc ds < (acc + 1) * 10 ^ length ds
unfolding value_from
value-below acc [] a = omega arith
value-below acc (d ∷ ds) a =
    let h = first-digit d ds a in
    rw (pow-succ' 10 (length ds)) (one_digit_more acc (d - 48) (10 ^ length ds) _ (omega arith) (value-below (acc * 10 + (d - 48)) ds h.2))

-- where there is room for n more digits and one, one fits, and there is room for n after it
module _ (v n m : ℕ) (room : (v + 1) * 10 ^ suc n ≤ m) where
  wide : (v + 1) * (10 * 10 ^ n) ≤ m
  wide = rw pow-succ' at room

  pub one-fits : (v + 1) * 10 ≤ m
  one-fits = omega (arith, wide, mul-le-mul_right (v + 1) (ten-le 0 n (omega arith)))

  pub room_after : (d : ℕ) → d ≤ 9 → (v * 10 + d + 1) * 10 ^ n ≤ m
  room_after d h = omega (arith, wide, mul-le-mul_right (10 ^ n) h)

-- a value times a scale
pub small_product : (v s : ℕ) → v < 10 ^ 9 → s ≤ 1000000 → v * s < 10 ^ 15
small_product v s h l = let h' : v ≤ 999999999 = omega arith in omega (arith, mul-le-mul h' l)
