-- A record in the request's words (document 02, No. 10).
-- Assumes nothing.
use Rattle.std.specs.Prelude.{ℕ, ◌+◌, ◌≤◌, ◌<◌, ◌≡◌, true, List, length}
use Rattle.text.specs.Run.{all}
use Rattle.line_values.specs.Wording.{ValueText}
use Rattle.line_items.specs.Items.{item_count, item_row}
use Rattle.line_items.specs.Typed.{line_most, is_typed}
use Rattle.line_kinds.specs.Wording.{Passes}
use Rattle.desk_log.specs.Record.{record_of}
use Rattle.desk_state.specs.Desks.{bench_count}
use Rattle.desk_soundness.specs.SoundLog.{log_most}
use Rattle.reader_cuts.specs.Reading.{length_least, length_most}

-- the bytes r, which start at a byte of the log, are the record of a bench, an item and a value, and have the shape that is asked of one that is taken; what
-- `record_of` says of the first six bytes is "length", "kind 1", bench and item
pub record IsRecord (start : ℕ) (r : List ℕ) (bench item : ℕ) (value : List ℕ) : Type 0 where
  pub bytes : r ≡ record_of bench item value
  -- "length is 7 to 206"
  pub least : length_least ≤ length r
  pub most : length r ≤ length_most
  -- "bench 0 to 3"
  pub bench_in : bench < bench_count
  -- "item known"
  pub first : 1 ≤ item
  pub last : item ≤ item_count
  -- "the value well formed, of its kind, of bytes 32 to 126
  pub form : ValueText value
  pub kind : Passes item value
  pub typed : all is_typed value ≡ true
  -- and with its name and one space a line of at most 200"
  pub line : length (item_row item).name + 1 + length value ≤ line_most
  -- "the record ends within the log's first 65,536 bytes"
  pub within : start + length r ≤ log_most
