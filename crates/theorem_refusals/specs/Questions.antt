-- The tables of the two questions (document 01, "Two questions"; document 02, No. 9 and 11). That they are what Report and Who answer is `report-table` and `who-table`,
-- of a desk in lent memory `lent-report-table` and `lent-who-table` (proofs/QuestionAnswers.antt).
-- Assumes nothing.
use Rattle.std.specs.Prelude.{ℕ, ◌≤◌, ◌<◌, List, [], ◌∷◌}
use Rattle.line_items.specs.Items.{item_count}
use Rattle.desk_state.specs.Desks.{sheet_count}
use Rattle.rows.specs.Rows.{profile_count}
use Rattle.theorem_refusals.specs.Table.{Refusal, ◌when◌}

-- `Sound` says that the desk is sound: "Questions test soundness without the log's part". Report: "on an unsound desk it gives 2"; document 02, No. 9: "12, no such
-- sheet, before 2"; No. 11: "21, no such profile, after 12 and before 2"
abbrev pub report_table : Type 0 → ℕ → ℕ → List Refusal
report_table Sound sheet profile =
    12 when (sheet < sheet_count → ⊥) ∷
    21 when (profile < profile_count → ⊥) ∷
    2 when (Sound → ⊥) ∷ []

-- Who: "2 if unsound, else 6 if not 1 to 10"; document 02, No. 11: "Item numbers up to 18 amend 6", No. 12: up to 19
abbrev pub who_table : Type 0 → ℕ → ℕ → List Refusal
who_table Sound sheet item =
    12 when (sheet < sheet_count → ⊥) ∷
    2 when (Sound → ⊥) ∷
    6 when ((1 ≤ item) × (item ≤ item_count) → ⊥) ∷ []
