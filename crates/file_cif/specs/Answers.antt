-- What writing the file of a sheet answers and leaves, for every desk, sheet number, block name and lent bytes (document 02, No. 1 and 9).
-- Assumes nothing.
use Rattle.std.specs.Prelude.{ℕ, cond, Result, Ok, Err, List, ◌++◌, leb, length, drop}
use Rattle.desk_soundness.specs.Sound.{sound_desk}
use Rattle.desk_state.specs.Desks.{is_sheet, sheet_at}
use Rattle.desk_state.specs.declared.desk.Desk.{Desk}
use Rattle.desk_memory.specs.Memory.{is_desk, desk_of}
use Rattle.file_block_name.specs.Block.{is_block_name}
use Rattle.file_cif.specs.File.{file_of}
use Rattle.desk_answers.specs.Number.{file_number}
use Rattle.desk_answers.specs.declared.FileRefusal.{FileRefusal}

-- everything that writing leaves: the answer's number, "how many bytes it wrote", and the whole of the lent bytes
pub record Filing : Type 0 where
  pub answer : ℕ
  pub count : ℕ
  pub out : List ℕ

-- "with a refusal, 0 and none at all"
abbrev pub no_file : ℕ → List ℕ → Filing
no_file a out = record { answer = a; count = 0; out = out }

-- the function's result and what the lent bytes then hold
abbrev pub filing_of : Result ℕ FileRefusal → List ℕ → Filing
filing_of (Ok count) out = record { answer = 0; count = count; out = out }
filing_of (Err refusal) out = no_file (file_number refusal) out

-- "It says how many bytes it wrote and touches none after them"
abbrev pub whole_file : List ℕ → List ℕ → Filing
whole_file file out = record { answer = 0; count = length file; out = file ++ drop (length file) out }

-- the file in the lent bytes; no room "exactly when the whole file is longer than the lent bytes"
abbrev pub file_within : List ℕ → List ℕ → Filing
file_within file out = cond (leb (length file) (length out)) (whole_file file out) (no_file 10 out)

-- "Refusal numbers .. each given exactly when its condition is the first that applies"; No. 9: "12, no such sheet, before 2"
unfoldable pub file_step : Desk → ℕ → List ℕ → List ℕ → Filing
file_step d sheet name out =
    cond (is_sheet sheet)
    (cond (sound_desk d) (cond (is_block_name name) (file_within (file_of name (sheet_at d sheet)) out) (no_file 11 out)) (no_file 2 out))
    (no_file 12 out)

-- the same of the desk in lent memory; memory that is no desk is unsound
unfoldable pub file_lent : List ℕ → List ℕ → ℕ → List ℕ → List ℕ → Filing
file_lent t n sheet name out = cond (is_desk t n) (file_step (desk_of t n) sheet name out) (cond (is_sheet sheet) (no_file 2 out) (no_file 12 out))
