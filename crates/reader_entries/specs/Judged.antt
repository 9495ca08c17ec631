-- What becomes of a whole record of good length on a desk (document 02, No. 10): 0, 18 or 19, and what is stored.
-- Assumes nothing.
use Rattle.std.specs.Prelude.{ℕ, Bool, cond, ◌&&◌, List}
use Rattle.desk_state.specs.declared.desk.Desk.{Desk}
use Rattle.desk_soundness.specs.Sound.{sound_desk}
use Rattle.desk_soundness.specs.SoundLog.{log_most, sound_log}
use Rattle.desk_entries.specs.Entry.{with_entry_on, open_to, own_item}
use Rattle.reader_cuts.specs.Reading.{Reading, read_all}
use Rattle.desk_log.specs.Record.{bench_told, item_told, value_told}
use Rattle.reader_records.specs.Shape.{shaped}

-- "any other shape fault, 18; then 19": a record that starts at a byte of the log is taken if it has a record's shape "and the item is unowned or owned by that
-- bench"; "Logs from before No. 8 may hold foreign overwrites; within one sheet those get 19": the item is that of the bench's own sheet
unfoldable pub refusal_of : ℕ → List ℕ → Desk → ℕ
refusal_of start r d = cond (shaped start r) (cond (open_to (own_item d (bench_told r) (item_told r)) (bench_told r)) 0 19) 18

-- what a record that is taken leaves: one entry more, as Enter stores it
unfoldable pub store_of : List ℕ → Desk → Desk
store_of r d = with_entry_on d (bench_told r) (item_told r) (value_told r)

-- "sound with the record's start as used in a log of 65,536"
unfoldable pub sound_at : Desk → ℕ → Bool
sound_at d start = sound_desk d && sound_log d log_most start

-- all records of some bytes, the first of which starts at a byte of the log; whether they are the log's last bytes
abbrev pub read_on : Bool → Desk → ℕ → List ℕ → Reading Desk
read_on = read_all refusal_of store_of
