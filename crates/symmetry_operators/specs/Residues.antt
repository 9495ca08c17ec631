-- What the check computes with: operators modulo 12288, which is 24 times 512, and 512 is 8 times 8 times 8. A factor −1 is 12287; a translation counts 512 a
-- 24th, so that 24 of them are 0. A part is then one number, x + 8 y + 64 z + 512 t, its word; an operator is three words, its code. The word of a part after
-- an operator is a sum of multiples of that operator's words: no number is taken modulo 24 by itself.
-- Assumes nothing.
use Rattle.std.specs.Prelude.{ℕ, suc, ◌+◌, ◌*◌, ◌-◌, ◌/◌, ◌%◌, Bool, cond, ◌||◌, List, [], ◌∷◌, map, eqb, ℤ, pos, negsuc, get_or, length}
use Rattle.text.specs.Run.{all, run_of}
use Rattle.symmetry_operators.specs.Operator.{Part, Row, part}
use Rattle.symmetry_operators.specs.Lists.{has, distinct}
use Rattle.symmetry_operators.specs.Check.{Outcome, outcome, rows_from}

-- a whole number modulo 12288, from 0 to 12287
abbrev pub reduced : ℤ → ℕ
reduced (pos n) = n % 12288
reduced (negsuc n) = 12287 - n % 12288

-- a translation, 512 a 24th
abbrev pub scaled : ℤ → ℕ
scaled z = (512 * reduced z) % 12288

abbrev pub residues_part : Part ℤ → Part ℕ
residues_part p = part (reduced p.x) (reduced p.y) (reduced p.z) (scaled p.t)

abbrev pub residues : Row ℤ → Row ℕ
residues r = record { first = residues_part r.first; second = residues_part r.second; third = residues_part r.third }

-- ---- the product and the determinant
abbrev pub dot_n : Part ℕ → ℕ → ℕ → ℕ → ℕ
dot_n p a b c = p.x * a + p.y * b + p.z * c

unfoldable pub after_n : Part ℕ → Row ℕ → Part ℕ
after_n p s = record {
  x = dot_n p s.first.x s.second.x s.third.x % 12288;
  y = dot_n p s.first.y s.second.y s.third.y % 12288;
  z = dot_n p s.first.z s.second.z s.third.z % 12288;
  t = (dot_n p s.first.t s.second.t s.third.t + p.t) % 12288;
}

unfoldable pub product_n : Row ℕ → Row ℕ → Row ℕ
product_n r s = record { first = after_n r.first s; second = after_n r.second s; third = after_n r.third s }

abbrev pub minor_n : ℕ → ℕ → ℕ → ℕ → ℕ
minor_n a b c d = a * d + 12287 * (b * c)

-- the determinant, with 12287 for −1
abbrev pub det_n : Row ℕ → ℕ
det_n r =
    let p = r.first in
    let q = r.second in
    let s = r.third in
    p.x * minor_n q.y q.z s.y s.z + 12287 * (p.y * minor_n q.x q.z s.x s.z) + p.z * minor_n q.x q.y s.x s.y

unfoldable pub turns_n : Row ℕ → Bool
turns_n r = eqb (det_n r % 12288) 1 || eqb (det_n r % 12288) 12287

-- ---- words and codes
-- a part as one number
abbrev pub part_word : Part ℕ → ℕ
part_word p = (p.x + 8 * p.y + 64 * p.z + p.t) % 12288

-- three words as one number
abbrev pub packed : ℕ → ℕ → ℕ → ℕ
packed a b c = (a * 65536 + b) * 65536 + c

unfoldable pub code_row : Row ℕ → ℕ
code_row r = packed (part_word r.first) (part_word r.second) (part_word r.third)

-- the word of the part p after an operator with the words a, b and c
abbrev pub word_after : Part ℕ → ℕ → ℕ → ℕ → ℕ
word_after p a b c = (dot_n p a b c + p.t) % 12288

-- the code of the product of a row and an operator of which the code is known
unfoldable pub product_code : Row ℕ → ℕ → ℕ
product_code r c =
    let i = c / 4294967296 % 65536 in
    let j = c / 65536 % 65536 in
    let k = c % 65536 in
    packed (word_after r.first i j k) (word_after r.second i j k) (word_after r.third i j k)

-- the row of twelve residues
unfoldable pub row_from_n : List ℕ → Row ℕ
row_from_n l = record {
  first = part (get_or l 0 0) (get_or l 1 0) (get_or l 2 0) (get_or l 9 0);
  second = part (get_or l 3 0) (get_or l 4 0) (get_or l 5 0) (get_or l 10 0);
  third = part (get_or l 6 0) (get_or l 7 0) (get_or l 8 0) (get_or l 11 0);
}

-- ---- the check over codes
-- the code of an operator
abbrev pub code : Row ℤ → ℕ
code r = code_row (residues r)

-- the determinant of an operator is 1 or −1, and the product's code with another one is among the codes
abbrev pub turning : Row ℤ → Bool
turning r = turns_n (residues r)

abbrev pub closes_code : List ℕ → Row ℕ → ℕ → Bool
closes_code codes r c = has eqb codes (product_code r c)

-- how many pairs come before the first whose product is not there: of the first operators `l`, each with all codes
abbrev pub run_pairs : List ℕ → List (Row ℤ) → ℕ
run_pairs codes [] = 0
run_pairs codes (r ∷ l) =
    let found = run_of (closes_code codes (residues r)) codes in
    cond (eqb found (length codes)) (length codes + run_pairs codes l) found

-- the identity's code
abbrev pub identity_code : ℕ
identity_code = 4295491648

abbrev pub closed_by : ℕ → ℕ → Outcome
closed_by found most = cond (eqb found most) (outcome 0 most) (outcome 17 (suc found))

-- the check of n operators with their codes, then of n operators
unfoldable pub closed_n : ℕ → List ℤ → List ℕ → Outcome
closed_n n l codes =
    cond (has eqb codes identity_code) (cond (distinct eqb codes) (closed_by (run_pairs codes (rows_from n l)) (n * n)) (outcome 16 0)) (outcome 15 0)

abbrev pub codes_of : ℕ → List ℤ → List ℕ
codes_of n l = map code (rows_from n l)

unfoldable pub judged_n : ℕ → List ℤ → Outcome
judged_n n l = cond (all turning (rows_from n l)) (closed_n n l (codes_of n l)) (outcome 14 0)
