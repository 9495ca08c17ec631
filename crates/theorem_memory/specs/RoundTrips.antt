-- The round trip in lent memory (document 02, No. 1): the item lines of the file of t and n, typed into memory of zeros from one bench, with room in the
-- log, leave memory m in which "every value is there again". Document 02, No. 9: the file is of one sheet, and the values are on the bench's own. ps are the calls with their
-- answers.
-- Assumes nothing.
use Rattle.std.specs.Prelude.{ℕ, ◌≤◌, ◌<◌, ◌≡◌, List, map, length, replicate}
use Rattle.line_items.specs.Items.{item_count}
use Rattle.desk_state.specs.Sheets.{item_at, value_in, empty_sheet}
use Rattle.desk_state.specs.Desks.{sheet_count, sheet_of_bench, sheet_at}
use Rattle.rows.specs.declared.Rows.{Rows}
use Rattle.desk_memory.specs.Memory.{desk_of}
use Rattle.file_cif.specs.Answers.{file_lent}
use Rattle.theorem_work.specs.Calls.{Call, Reply, keyed}
use Rattle.theorem_round_trip.specs.RoundTrip.{line_keys, filed_bytes, filled_count}
use Rattle.theorem_memory.specs.Runs.{Memory, state_in}

-- the keys of the item lines of the file that is written of a sheet of t and n
abbrev pub file_keys : List ℕ → List ℕ → ℕ → List ℕ → List ℕ → ℕ → List Call
file_keys t n sheet name out bench = line_keys bench (filed_bytes (file_lent t n sheet name out))

pub record MemoryRoundTrip (t n : List ℕ) (sheet : ℕ) (name out : List ℕ) (bench : ℕ) (ps : List (Call × Reply Rows)) (m : Memory) : Type 0 where
  -- every key is accepted, each line's Enter among them
  pub accepted : map (λ p. p.1) ps ≡ replicate (length (file_keys t n sheet name out bench)) (keyed 0)
  -- "every value is there again", and an item that was empty is empty
  pub values : (k : ℕ) → 1 ≤ k → k ≤ item_count → value_in (item_at (sheet_at (state_in m).desk (sheet_of_bench bench)) k) ≡ value_in (item_at (sheet_at (desk_of t n) sheet) k)
  -- one entry for each filled item, and no other: the other sheet stays empty
  pub count : (sheet_at (state_in m).desk (sheet_of_bench bench)).count ≡ filled_count (sheet_at (desk_of t n) sheet).items
  pub elsewhere : (other : ℕ) → other < sheet_count → (sheet_of_bench bench ≡ other → ⊥) → sheet_at (state_in m).desk other ≡ empty_sheet
