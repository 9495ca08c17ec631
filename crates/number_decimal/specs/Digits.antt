-- Digits, what they write, the text of a number in decimal, and the limits of a number (document 01, "A line, a number"), which document 02, No. 4 leaves as they are.
-- Assumes nothing.
use Rattle.std.specs.Prelude.{ℕ, zero, suc, ◌+◌, ◌-◌, ◌*◌, ◌/◌, ◌%◌, ◌^◌, cond, List, [], ◌∷◌, ◌++◌, ltb}

-- "1 to 9 digits before any bracket": nine in all, on both sides of the point together
abbrev pub most_digits : ℕ
most_digits = 9

-- "at most 6 after it": after the point
abbrev pub most_places : ℕ
most_places = 6

-- "1 to 4 digits of uncertainty"
abbrev pub most_uncertain : ℕ
most_uncertain = 4

-- no number is longer: a sign, the digits, a point, and the uncertainty in its brackets
abbrev pub most_bytes : ℕ
most_bytes = 1 + most_digits + 1 + most_uncertain + 2

-- the number that acc and then the digits write, in base ten
unfoldable pub value_from : ℕ → List ℕ → ℕ
value_from acc [] = acc
value_from acc (b ∷ bs) = value_from (acc * 10 + (b - 48)) bs

-- the whole number that some digits write
abbrev pub value_of : List ℕ → ℕ
value_of ds = value_from 0 ds

-- the digit of a number below 10
abbrev pub digit : ℕ → ℕ
digit n = 48 + n

-- the last digits of a number, at most so many, without leading zeros
unfoldable pub last_digits : ℕ → ℕ → List ℕ
last_digits zero n = []
last_digits (suc most) n = cond (ltb n 10) [] (last_digits most (n / 10)) ++ (digit (n % 10) ∷ [])

-- what the last of n digits after the point is worth, in millionths; with n = 0, what one is worth
abbrev pub scale_of : ℕ → ℕ
scale_of n = 10 ^ (most_places - n)
