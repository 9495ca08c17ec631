-- The shape of a record (document 02, No. 10). In the request's words it is specs/Wording.antt; that both say the same is `Shape-is` and `shape-taken`
-- (proofs/Wording.antt).
-- Assumes nothing.
use Rattle.std.specs.Prelude.{ℕ, ◌+◌, Bool, ◌&&◌, List, ltb, leb, eqb, length, get_or}
use Rattle.line_kinds.specs.Kinds.{fits}
use Rattle.desk_log.specs.Record.{bench_told, item_told, value_told}
use Rattle.desk_state.specs.Desks.{bench_count}
use Rattle.desk_soundness.specs.SoundLog.{log_most}

-- "kind 1, bench 0 to 3, item known, the value well formed, of its kind, of bytes 32 to 126 and with its name and one space a line of at most 200, the record
-- ends within the log's first 65,536 bytes": a whole record r that starts at a byte of the log, its length apart
unfoldable pub shaped : ℕ → List ℕ → Bool
shaped start r =
    eqb (get_or r 2 0) 1 && (eqb (get_or r 3 0) 0 && (ltb (bench_told r) bench_count && (fits (item_told r) (value_told r) && leb (start + length r) log_most)))
