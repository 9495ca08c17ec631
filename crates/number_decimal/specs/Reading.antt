-- The reading of a number by stages, as the code goes. `Agree` (proofs) shows that it is the grammar's.
-- Assumes nothing.
use Rattle.std.specs.Prelude.{ℕ, ◌+◌, ◌*◌, ◌^◌, ◌<◌, Bool, true, false, cond, ◌&&◌, ◌||◌, List, ◌++◌, leb, eqb, length, get_or, take, drop, pos, neg_ℤ, ℤ, Option, Some, None}
use Rattle.text.specs.Run.{run_of, all, has_at, is_digit}
use Rattle.number_decimal.specs.Digits.{most_digits, most_places, most_uncertain, value_of, scale_of}

-- 1 to 9 digits, and the whole number that they write
unfoldable pub whole_of : List ℕ → Option ℕ
whole_of s = cond (leb 1 (length s) && (leb (length s) most_digits && all is_digit s)) (Some (value_of s)) None

-- after the bracket that opens: 1 to 4 digits, the bracket that closes, and nothing more
unfoldable pub closes_bracket : List ℕ → Bool
closes_bracket u = leb 1 (run_of is_digit u) && (leb (run_of is_digit u) most_uncertain && (eqb (length u) (run_of is_digit u + 1) && eqb (get_or u (run_of is_digit u) 0) 41))

-- what follows the digits: nothing, or an uncertainty in round brackets
unfoldable pub is_tail : List ℕ → Bool
is_tail s = eqb (length s) 0 || (eqb (get_or s 0 0) 40 && closes_bracket (drop 1 s))

-- the size of so many digits in all, so many of them after the point, that write v, and of what follows them, if their numbers are right
unfoldable pub size_of : ℕ → ℕ → ℕ → List ℕ → Option ℕ
size_of digits places v tail =
    cond (leb 1 digits && (leb digits most_digits && (leb places most_places && is_tail tail))) (Some (v * scale_of places)) None

-- the size of the digits before the point, those after it, and what follows: both together write a number, whose last digit is worth its place
abbrev pub parts_size : List ℕ → List ℕ → List ℕ → Option ℕ
parts_size before fraction tail = size_of (length before + length fraction) (length fraction) (value_of (before ++ fraction)) tail

-- the digits that a text begins with, and what follows them
abbrev pub digits_of : List ℕ → List ℕ
digits_of s = take (run_of is_digit s) s

abbrev pub after_digits : List ℕ → List ℕ
after_digits s = drop (run_of is_digit s) s

-- the point at a place of a text is one byte long, and none is none
abbrev pub point_length : List ℕ → ℕ → ℕ
point_length s at = cond (has_at s at 46) 1 0

-- where the digits after the point begin: after those before it, and the point if there is one
abbrev pub fraction_at : List ℕ → ℕ
fraction_at s = run_of is_digit s + point_length s (run_of is_digit s)

-- digits or none, a point or none, digits or none, and what follows; without a point no digit follows the first ones
unfoldable pub unsigned_of : List ℕ → Option ℕ
unsigned_of s =
    parts_size (digits_of s) (digits_of (drop (fraction_at s) s)) (after_digits (drop (fraction_at s) s))

-- the number of that size, below zero or not
abbrev pub signed_of : Bool → Option ℕ → Option ℤ
signed_of negative (Some m) = Some (cond negative (neg_ℤ (pos m)) (pos m))
signed_of negative None = None

-- an optional sign, and then the rest
abbrev pub sign_length : List ℕ → ℕ
sign_length s = cond (has_at s 0 45 || has_at s 0 43) 1 0

unfoldable pub reading_of : List ℕ → Option ℤ
reading_of s = signed_of (has_at s 0 45) (unsigned_of (drop (sign_length s) s))

-- a text is a number
abbrev pub is_found : Option ℤ → Bool
is_found (Some z) = true
is_found None = false

unfoldable pub is_number : List ℕ → Bool
is_number s = is_found (reading_of s)

-- a size far below what an i64 holds
abbrev pub Small : Option ℕ → Type 0
Small (Some m) = m < 10 ^ 15
Small None = Unit {0}
