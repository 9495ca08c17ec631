-- The check of a list of operators (document 02, No. 5) by tests, in the order of the refusals: what it answers, and how many pairs it looks at.
-- That these are the request's words stands in Wording.
-- Assumes nothing.
use Rattle.std.specs.Prelude.{ℕ, ◌*◌, ◌/◌, ◌%◌, Bool, cond, ◌&&◌, List, eqb, leb, ℤ, pos, length, get_or}
use Rattle.text.specs.Run.{all}
use Rattle.symmetry_operators.specs.Operator.{Row, part, product, identity, same, fine, turns}
use Rattle.symmetry_operators.specs.Lists.{has, distinct, looked, pairs_with, in_twelves}

-- "at most 192 operators"
abbrev pub row_most : ℕ
row_most = 192

-- the row at the head of a list of numbers: "nine factors .. (part by part, each x, y, z) and three translations"
unfoldable pub row_from : List ℤ → Row ℤ
row_from l = record {
  first = part (get_or l 0 (pos 0)) (get_or l 1 (pos 0)) (get_or l 2 (pos 0)) (get_or l 9 (pos 0));
  second = part (get_or l 3 (pos 0)) (get_or l 4 (pos 0)) (get_or l 5 (pos 0)) (get_or l 10 (pos 0));
  third = part (get_or l 6 (pos 0)) (get_or l 7 (pos 0)) (get_or l 8 (pos 0)) (get_or l 11 (pos 0));
}

abbrev pub rows_from : ℕ → List ℤ → List (Row ℤ)
rows_from n l = in_twelves row_from n l

-- the rows of a list of numbers
abbrev pub operator_rows : List ℤ → List (Row ℤ)
operator_rows l = rows_from (length l / 12) l

-- what the check says: the answer's number, and the number of pairs looked at
pub record Outcome : Type 0 where
  pub answer : ℕ
  pub pairs : ℕ

abbrev pub outcome : ℕ → ℕ → Outcome
outcome a n = record { answer = a; pairs = n }

-- the product of a pair is in the list
abbrev pub closes : List (Row ℤ) → Row ℤ × Row ℤ → Bool
closes l p = has same l (product p.0 p.1)

-- "Pairs run by first row, then second"
abbrev pub pairs : List (Row ℤ) → List (Row ℤ × Row ℤ)
pairs l = pairs_with l l

-- 17, or accepted, with "the number of pairs looked at up to and including the first without its product, or all pairs"
unfoldable pub closing : List (Row ℤ) → Outcome
closing l = outcome (cond (all (closes l) (pairs l)) 0 17) (looked (closes l) (pairs l))

-- "14 determinant, 15 no identity, 16 equal rows, 17 a product missing, in that order"; "the pair count is 0 for 13 to 16"
unfoldable pub judged : List (Row ℤ) → Outcome
judged l = cond (all turns l) (cond (has same l identity) (cond (distinct same l) (closing l) (outcome 16 0)) (outcome 15 0)) (outcome 14 0)

-- no part row, at most 192 rows, no number out of range
unfoldable pub list_shaped : List ℤ → Bool
list_shaped l = eqb (length l % 12) 0 && (leb (length l) (12 * row_most) && all fine (operator_rows l))

-- the check of a list of numbers
unfoldable pub checked : List ℤ → Outcome
checked l = cond (list_shaped l) (judged (operator_rows l)) (outcome 13 0)
