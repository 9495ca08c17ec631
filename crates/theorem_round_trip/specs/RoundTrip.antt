-- The round trip of the CIF file (document 02, No. 1): "Type the item lines into a fresh desk from one bench, with room in the log, and every value is
-- there again." `RoundTrip s file bench log` is the claim about a sheet and its file; that it holds of every file that is written is `round_trip`, in
-- proofs/Trip.antt. Document 02, No. 9: the file is one sheet's, and the bench fills its own. The file's bytes are read in specs/File.antt of file_cif, the calls
-- in specs/Calls.antt of theorem_work, the fresh desk in that of theorem_sequences.
-- Assumes nothing.
use Rattle.std.specs.Prelude.{ℕ, ◌+◌, ◌≤◌, ◌<◌, ◌≡◌, cond, List, [], ◌∷◌, map, eqb, length, take, drop, replicate}
use Rattle.text.specs.Run.{run_of, other}
use Rattle.line_items.specs.Items.{item_count}
use Rattle.desk_state.specs.Sheets.{item_at, value_in, empty_sheet}
use Rattle.desk_state.specs.Desks.{sheet_count, sheet_of_bench, sheet_at}
use Rattle.desk_state.specs.declared.sheet.Item.{Item}
use Rattle.desk_state.specs.declared.sheet.Sheet.{Sheet}
use Rattle.desk_log.specs.Record.{record_length}
use Rattle.rows.specs.Rows.{no_rows}
use Rattle.rows_sheet.specs.Sheet.{rows_of}
use Rattle.rows.specs.declared.Rows.{Rows}
use Rattle.file_cif.specs.Answers.{Filing}
use Rattle.theorem_work.specs.Calls.{Call, typing, Reply, keyed}
use Rattle.theorem_sequences.specs.Calls.{State}
use Rattle.theorem_sequences.specs.Sequences.{desk_answers, state_after}

-- "the item lines": all that follows a file's first line, which byte 10 ends
abbrev pub item_lines : List ℕ → List ℕ
item_lines file = drop (run_of (other 10) file + 1) file

-- "Type the item lines .. from one bench"
abbrev pub line_keys : ℕ → List ℕ → List Call
line_keys bench file = typing bench (item_lines file)

-- the bytes that were written: the first of the lent bytes, as many as the writer says
abbrev pub filed_bytes : Filing → List ℕ
filed_bytes a = take a.count a.out

-- the bytes of the log that the record of an item's value takes; none for an empty item
abbrev pub record_room : Item → ℕ
record_room i = cond (eqb i.len 0) 0 (record_length (value_in i))

-- "room in the log": the bytes that the records of the filled items take
abbrev pub room_for : List Item → ℕ
room_for [] = 0
room_for (i ∷ is) = record_room i + room_for is

-- how many items are filled
abbrev pub filled_count : List Item → ℕ
filled_count [] = 0
filled_count (i ∷ is) = cond (eqb i.len 0) 0 1 + filled_count is

-- what each call is answered, and what all of them leave, from a fresh desk and that log
abbrev pub replies : List ℕ → List Call → List (Reply Rows)
replies log cs = map (λ p. p.1) (desk_answers rows_of no_rows log cs)

abbrev pub end_of : List ℕ → List Call → State
end_of log cs = state_after rows_of no_rows log cs

-- the bench's own sheet after these calls
abbrev pub own_sheet : List ℕ → ℕ → List Call → Sheet
own_sheet log bench cs = sheet_at (end_of log cs).desk (sheet_of_bench bench)

pub record RoundTrip (s : Sheet) (file : List ℕ) (bench : ℕ) (log : List ℕ) : Type 0 where
  -- every key is accepted, each line's Enter among them
  pub accepted : replies log (line_keys bench file) ≡ replicate (length (line_keys bench file)) (keyed 0)
  -- "every value is there again", and an item that was empty is empty
  pub values : (k : ℕ) → 1 ≤ k → k ≤ item_count → value_in (item_at (own_sheet log bench (line_keys bench file)) k) ≡ value_in (item_at s k)
  -- one entry for each filled item, and no other: the other sheet stays empty
  pub count : (own_sheet log bench (line_keys bench file)).count ≡ filled_count s.items
  pub elsewhere : (other : ℕ) → other < sheet_count → (sheet_of_bench bench ≡ other → ⊥) → sheet_at (end_of log (line_keys bench file)).desk other ≡ empty_sheet
