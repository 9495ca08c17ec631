-- The reading of an operator's text by stages, as the code goes. `Agree` (proofs) shows that it is the grammar's.
-- Assumes nothing.
use Rattle.std.specs.Prelude.{ℕ, ◌+◌, ◌%◌, ◌≡◌, true, cond, Option, Some, None, List, pos, take, drop}
use Rattle.text.specs.Run.{run_of, other, has_at}
use Rattle.symmetry_fractions.specs.Grammar.{one_in24ths}
use Rattle.symmetry_parts.specs.Reading.{factor, part_of}
use Rattle.symmetry_parts.specs.declared.Sum.{Sum}
use Rattle.symmetry_readings.specs.declared.RowPart.{RowPart}
use Rattle.symmetry_readings.specs.declared.OperatorRow.{OperatorRow}

-- the numbers of a part that was read
abbrev pub row_part : Sum → RowPart
row_part p = record { x = factor p.x; y = factor p.y; z = factor p.z; t = pos (p.t % one_in24ths) }

-- the row of three parts that were read
abbrev pub row_of : Sum → Sum → Sum → OperatorRow
row_of p q r = record { first = row_part p; second = row_part q; third = row_part r }

-- the row of three parts, if each was read
abbrev pub row_of_parts : Option Sum → Option Sum → Option Sum → Option OperatorRow
row_of_parts None b c = None
row_of_parts (Some p) None c = None
row_of_parts (Some p) (Some q) None = None
row_of_parts (Some p) (Some q) (Some r) = Some (row_of p q r)

-- the row of three parts' texts
unfoldable pub parts_of : List ℕ → List ℕ → List ℕ → Option OperatorRow
parts_of first second third = row_of_parts (part_of first) (part_of second) (part_of third)

-- how many bytes come before the first comma
abbrev pub before_comma : List ℕ → ℕ
before_comma s = run_of (other 44) s

-- first and rest are the texts before and after the first comma
pub record Parted (s first rest : List ℕ) : Type 0 where
  pub comma : has_at s (before_comma s) 44 ≡ true
  pub before : first ≡ take (before_comma s) s
  pub after : rest ≡ drop (before_comma s + 1) s

-- what f makes of the texts before and after the first comma; without a comma there is no operator
unfoldable pub at_comma : (List ℕ → List ℕ → Option OperatorRow) → List ℕ → Option OperatorRow
at_comma f s = cond (has_at s (before_comma s) 44) (f (take (before_comma s) s) (drop (before_comma s + 1) s)) None

-- after the first comma: the second part, a comma, and the third part
abbrev pub second_of : List ℕ → List ℕ → Option OperatorRow
second_of first = at_comma (parts_of first)

-- the first part, a comma, and the rest
abbrev pub reading_of : List ℕ → Option OperatorRow
reading_of = at_comma second_of
