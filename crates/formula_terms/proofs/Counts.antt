-- Laws of `count_of`: what the digits that were read, or not, are as a count.
-- Assumes nothing.
use Rattle.std.specs.Prelude.{Some, None}
use mathlib.Core.Path.{◌≡◌, refl}
use mathlib.Core.Bool.{Bool, true, false, not, and-false}
use mathlib.Core.List.{List, [], ◌∷◌}
use Prim.Native.Nat.{ℕ, ◌+◌, ◌-◌, ◌*◌, ◌≤◌, ◌<◌}
use native.Mathlib.Nat.{le_trans}
use native.Mathlib.Omega.{arith}
use borrow.Author.Tests.{le-leb, lt-leb, eq-eqb, ne_eqb}
use lib.Dec.{leb, eqb}
use lib.ListN.{length, get_or}
use Rattle.text.specs.Run.{all, is_digit}
use Rattle.number_decimal.specs.Digits.{value_from, value_of}
use Rattle.number_decimal.specs.Reading.{whole_of}
use Rattle.number_decimal.proofs.Digits.{first-digit, whole_is, whole-none}
use Rattle.formula_terms.specs.Term.{most_count, is_count, count_of}

-- digits after acc write no less than acc
pub value-over : (acc : ℕ) (ds : List ℕ) → acc ≤ value_from acc ds
unfolding value_from
value-over acc [] = omega arith
value-over acc (d ∷ ds) = omega (arith, value-over (acc * 10 + (d - 48)) ds)

-- digits that do not begin with 0 write at least 1
pub value-positive : (ds : List ℕ) → all is_digit ds ≡ true → (get_or ds 0 0 ≡ 48 → ⊥) → 1 ≤ length ds → 1 ≤ value_of ds
unfolding value_from
value-positive [] a z l = absurd (omega arith)
value-positive (d ∷ ds) a z l =
    let h = first-digit d ds a in
    let n : d ≡ 48 → ⊥ = z in
    omega (arith, n, value-over (0 * 10 + (d - 48)) ds)

-- a text that is no count
pub no-count : (s : List ℕ) → (length s ≡ 0 → ⊥) → is_count s ≡ false → count_of s ≡ None
unfolding count_of
no-count s l e = simp (ne_eqb (length s) 0 l, e)

-- a leading zero
pub leading-zero : (s : List ℕ) → get_or s 0 0 ≡ 48 → is_count s ≡ false
unfolding is_count
leading-zero s e = rw (eq-eqb (get_or s 0 0) 48 e) (and-false (all is_digit s))

five-large : (a b c d e : ℕ) → 1 ≤ a → most_count < (((a * 10 + b) * 10 + c) * 10 + d) * 10 + e
five-large a b c d e h = omega arith

-- five digits and more that do not begin with 0 write more than the largest count
long-large : (s : List ℕ) → all is_digit s ≡ true → (get_or s 0 0 ≡ 48 → ⊥) → 5 ≤ length s → most_count < value_of s
unfolding value_from
long-large [] a z l = absurd (omega arith)
long-large (d₁ ∷ []) a z l = absurd (omega arith)
long-large (d₁ ∷ d₂ ∷ []) a z l = absurd (omega arith)
long-large (d₁ ∷ d₂ ∷ d₃ ∷ []) a z l = absurd (omega arith)
long-large (d₁ ∷ d₂ ∷ d₃ ∷ d₄ ∷ []) a z l = absurd (omega arith)
long-large (d₁ ∷ d₂ ∷ d₃ ∷ d₄ ∷ d₅ ∷ ds) a z l =
    let h = first-digit d₁ (d₂ ∷ d₃ ∷ d₄ ∷ d₅ ∷ ds) a in
    let n : d₁ ≡ 48 → ⊥ = z in
    let e₁ = 0 * 10 + (d₁ - 48) in
    le_trans (five-large e₁ (d₂ - 48) (d₃ - 48) (d₄ - 48) (d₅ - 48) (omega (arith, n))) (value-over ((((e₁ * 10 + (d₂ - 48)) * 10 + (d₃ - 48)) * 10 + (d₄ - 48)) * 10 + (d₅ - 48)) ds)

module _ (s : List ℕ) where
  -- digits worth more than the largest count
  too_large : most_count < value_of s → is_count s ≡ false
  unfolding is_count
  too_large m =
      rw (lt-leb (value_of s) most_count m, and-false (leb 1 (value_of s)), and-false (not (eqb (get_or s 0 0) 48))) (and-false (all is_digit s))

  unread-by : (t : Bool) → all is_digit s ≡ t → (length s ≡ 0 → ⊥) → (get_or s 0 0 ≡ 48 → ⊥) → whole_of s ≡ None → is_count s ≡ false
  unfolding is_count
  unread-by false a l z e = simp a
  unread-by true a l z e = let many = whole-none s (omega (arith, l)) a e in too_large (long-large s a z (omega arith))

  module _ (l : length s ≡ 0 → ⊥) (z : get_or s 0 0 ≡ 48 → ⊥) where
    -- no digits, or more than nine
    pub unread : whole_of s ≡ None → count_of s ≡ None
    unread e = no-count s l (unread-by (all is_digit s) refl l z e)

    pub over : (n : ℕ) → whole_of s ≡ Some n → most_count < n → count_of s ≡ None
    over n e m = let k = whole_is s n e in no-count s l (too_large (omega (arith, k.1)))

    pub read : (n : ℕ) → whole_of s ≡ Some n → n ≤ most_count → count_of s ≡ Some n
    unfolding count_of is_count
    read n e m =
        let k = whole_is s n e in
        let least : 1 ≤ n = omega (arith, k.1, value-positive s k.0 z (omega (arith, l))) in
        simp (ne_eqb (length s) 0 l, k.0, ne_eqb (get_or s 0 0) 48 z, k.1, le-leb 1 n least, le-leb n most_count m)
