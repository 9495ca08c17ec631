-- The tables of the hydrogen helper and of the check of a count (document 02, No. 13), of the formula's value and the weight's. That they are what the two
-- answer is `helper-table` and `check-table` (proofs/Answers.antt), of a sheet in lent memory `lent-helper-table` and `lent-check-table` (proofs/DeskAnswers.antt).
-- Assumes nothing.
use Rattle.std.specs.Prelude.{ℕ, ◌<◌, List, [], ◌∷◌}
use Rattle.desk_state.specs.Desks.{sheet_count}
use Rattle.hydrogen_right.specs.Right.{Start, Right}
use Rattle.theorem_refusals.specs.Table.{Refusal, ◌when◌}

-- "22, start not as said; 23, the helper's, no right count"
abbrev pub helper_table : List ℕ → List ℕ → List Refusal
helper_table f w = 22 when (Start f w → ⊥) ∷ 23 when ((n : ℕ) → Right f w n → ⊥) ∷ []

-- "22, start not as said; .. 24, the check's, a proposed count that isn't right"
abbrev pub check_table : List ℕ → List ℕ → ℕ → List Refusal
check_table f w n = 22 when (Start f w → ⊥) ∷ 24 when (Right f w n → ⊥) ∷ []

-- "Refusals, after 12 and 2 as for questions: ..", of a sheet; `Sound` says that the desk is sound
abbrev pub asked_table : Type 0 → ℕ → List Refusal → List Refusal
asked_table Sound sheet rs =
    12 when (sheet < sheet_count → ⊥) ∷
    2 when (Sound → ⊥) ∷
    rs
