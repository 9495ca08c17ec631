-- What reading an operator's text answers (document 02, No. 5), by its number and its values.
-- Assumes nothing.
use Rattle.std.specs.Prelude.{ℕ, Option, Some, None, List, [], ◌∷◌, ℤ, pos, replicate}
use Rattle.symmetry_readings.specs.declared.OperatorRow.{OperatorRow}

-- "twelve": the numbers of a row
abbrev pub row_length : ℕ
row_length = 12

-- "Reading a text gives its row, or 13 and twelve zeros": the number
abbrev pub reading_number : Option OperatorRow → ℕ
reading_number (Some r) = 0
reading_number None = 13

-- and the numbers: "nine factors .. (part by part, each x, y, z) and three translations in 24ths"
abbrev pub numbers : Option OperatorRow → List ℤ
numbers (Some r) =
    r.first.x ∷ (r.first.y ∷ (r.first.z ∷ (r.second.x ∷ (r.second.y ∷ (r.second.z ∷ (r.third.x ∷ (r.third.y ∷ (r.third.z
    ∷ (r.first.t ∷ (r.second.t ∷ (r.third.t ∷ [])))))))))))
numbers None = replicate row_length (pos 0)
