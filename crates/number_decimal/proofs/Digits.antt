-- Laws of digits: the first is from 48 to 57, and the rest are digits; and what is known of a text that is 1 to 9 of them, or not.
-- Assumes nothing.
use Rattle.std.specs.Prelude.{Some, None}
use mathlib.Core.Path.{◌≡◌, refl}
use mathlib.Core.Bool.{Bool, true, false, cond, ◌&&◌}
use mathlib.Core.List.{List, ◌∷◌}
use Prim.Native.Nat.{ℕ, ◌≤◌, ◌<◌}
use native.Mathlib.Omega.{arith}
use borrow.Author.Tests.{le-leb, leb-true, leb-false}
use lib.Dec.{leb}
use lib.ListN.{length}
use Rattle.text.specs.Run.{between, all, is_digit}
use Rattle.text.proofs.Bools.{and_both}
use Rattle.number_decimal.specs.Digits.{most_digits, value_of}
use Rattle.number_decimal.specs.Reading.{whole_of}

pub first-digit : (d : ℕ) (ds : List ℕ) → all is_digit (d ∷ ds) ≡ true → (48 ≤ d) × (d ≤ 57) × (all is_digit ds ≡ true)
unfolding all between
first-digit d ds a =
    let h = and_both (between 48 57 d) (all is_digit ds) a in
    let b = and_both (leb 48 d) (leb d 57) h.0 in
    (leb-true _ _ b.0, leb-true _ _ b.1, h.1)

module _ (s : List ℕ) where
  whole_by : (b c d : Bool) (n : ℕ) → leb 1 (length s) ≡ b → leb (length s) most_digits ≡ c → all is_digit s ≡ d
      → cond (b && (c && d)) (Some (value_of s)) None ≡ Some n → (all is_digit s ≡ true) × (value_of s ≡ n)
  whole_by true true true n p q r e = let k : value_of s ≡ n = cc in (r, k)
  whole_by true true false n p q r e = let z : ◌≡◌ {A = ℕ} 0 1 = cc in absurd (omega arith)
  whole_by true false d n p q r e = let z : ◌≡◌ {A = ℕ} 0 1 = cc in absurd (omega arith)
  whole_by false c d n p q r e = let z : ◌≡◌ {A = ℕ} 0 1 = cc in absurd (omega arith)

  pub whole_is : (n : ℕ) → whole_of s ≡ Some n → (all is_digit s ≡ true) × (value_of s ≡ n)
  unfolding whole_of
  whole_is n e = whole_by (leb 1 (length s)) (leb (length s) most_digits) (all is_digit s) n refl refl refl e

  many_by : (c : Bool) → leb (length s) most_digits ≡ c → 1 ≤ length s → all is_digit s ≡ true → whole_of s ≡ None → most_digits < length s
  unfolding whole_of
  many_by true q some a e = let r = simp (le-leb 1 (length s) some, q, a) at e in let z : ◌≡◌ {A = ℕ} 0 1 = cc in absurd (omega arith)
  many_by false q some a e = leb-false _ _ q

  -- digits that were not read are too many
  pub whole-none : 1 ≤ length s → all is_digit s ≡ true → whole_of s ≡ None → most_digits < length s
  whole-none = many_by (leb (length s) most_digits) refl
