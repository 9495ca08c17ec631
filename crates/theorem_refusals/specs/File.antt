-- The table of the file's writer (document 02, No. 1 and 9). That it is what the writer answers is `file-table`, of a desk in
-- lent memory `lent-file-table` (proofs/FileAnswers.antt).
-- Assumes nothing.
use Rattle.std.specs.Prelude.{ℕ, ◌<◌, List, [], ◌∷◌, length}
use Rattle.desk_state.specs.Desks.{sheet_count}
use Rattle.desk_state.specs.declared.sheet.Sheet.{Sheet}
use Rattle.file_block_name.specs.Wording.{BlockName}
use Rattle.file_cif.specs.File.{file_of}
use Rattle.theorem_refusals.specs.Table.{Refusal, ◌when◌}

-- "2 as for questions, then 11 bad block name, then 10 no room, exactly when the whole file is longer than the lent bytes", of the sheet s,
-- which has that number; No. 9: "12, no such sheet, before 2"
abbrev pub file_table : Type 0 → ℕ → Sheet → List ℕ → List ℕ → List Refusal
file_table Sound sheet s name out =
    12 when (sheet < sheet_count → ⊥) ∷
    2 when (Sound → ⊥) ∷
    11 when (BlockName name → ⊥) ∷
    10 when (length out < length (file_of name s)) ∷ []
