-- What a key call does, for every desk, log, used number, bench number and byte (document 01, "Keys and their refusals";
-- document 02, No. 8 and 9).
-- Assumes nothing.
use Rattle.std.specs.Prelude.{ℕ, ◌+◌, ◌-◌, cond, ◌&&◌, List, ltb, eqb, length, drop, Result, Ok, Err}
use Rattle.line_items.specs.Typed.{line_most, is_typed}
use Rattle.line_reader.specs.Line.{class_of}
use Rattle.line_reader.specs.declared.line.LineEntry.{LineEntry}
use Rattle.line_reader.specs.declared.line.NoEntry.{NoEntry}
use Rattle.line_reader.specs.declared.line.NoEntry.TheVariants as no_entry
use Rattle.desk_log.specs.Record.{record_length, record_fits, with_record}
use Rattle.desk_state.specs.Lines.{typed, empty_line, appended, erased}
use Rattle.desk_state.specs.Desks.{bench_count, line_at, with_line}
use Rattle.desk_soundness.specs.Sound.{sound_desk}
use Rattle.desk_soundness.specs.SoundLog.{sound_log}
use Rattle.desk_entries.specs.Entry.{with_entry_on, open_to, own_item}
use Rattle.desk_state.specs.declared.line.Line.{Line}
use Rattle.desk_state.specs.declared.desk.Desk.{Desk}

-- everything that a key call leaves; the answer is its number
pub record After : Type 0 where
  pub answer : ℕ
  pub desk : Desk
  pub used : ℕ
  pub log : List ℕ

-- "Refused calls change nothing: the desk and the log come back equal"
abbrev pub refused : ℕ → Desk → ℕ → List ℕ → After
refused a d used log = record { answer = a; desk = d; used = used; log = log }

-- an accepted key other than Enter changes its bench's line
abbrev pub edited : Desk → ℕ → List ℕ → ℕ → Line → After
edited d used log bench l = record { answer = 0; desk = with_line d bench l; used = used; log = log }

-- "An accepted Enter stores the value .. and empties that line"; document 02, No. 9: on the bench's own sheet
abbrev pub entered : Desk → ℕ → ℕ → List ℕ → Desk
entered d bench item v = with_line (with_entry_on d bench item v) bench empty_line

-- "Each accepted entry adds one record at the first unused byte"; 8 when "the record is longer than the unused part of the log"
unfoldable pub stored : Desk → ℕ → List ℕ → ℕ → ℕ → List ℕ → After
stored d used log bench item v =
    cond (record_fits (length log - used) v)
    (record {
      answer = 0;
      desk = entered d bench item v;
      used = used + record_length v;
      log = with_record used log bench item v;
    })
    (refused 8 d used log)

-- document 02, No. 8: "Refusals: 9, item owned by another bench, after 7 and before 8"; No. 9: "ownership and entry counts are per sheet"
unfoldable pub stored_if_open : Desk → ℕ → List ℕ → ℕ → ℕ → List ℕ → After
stored_if_open d used log bench item v = cond (open_to (own_item d bench item) bench) (stored d used log bench item v) (refused 9 d used log)

-- Enter by what the line t is; "A refused Enter keeps the line for correction"
abbrev pub entered_as : Result LineEntry NoEntry → Desk → ℕ → List ℕ → ℕ → List ℕ → After
entered_as (Err no_entry.BadForm) d used log bench t = refused 5 d used log
entered_as (Err no_entry.UnknownName) d used log bench t = refused 6 d used log
entered_as (Err no_entry.WrongKind) d used log bench t = refused 7 d used log
entered_as (Ok at) d used log bench t = stored_if_open d used log bench at.item (drop at.start t)

-- the bench's Enter, with what is typed on its line
abbrev pub enter : Desk → ℕ → List ℕ → ℕ → After
enter d used log bench = entered_as (class_of (typed (line_at d bench))) d used log bench (typed (line_at d bench))

-- a byte to append; 4 when it "meets a line of 80" (document 02, No. 6: of 200)
abbrev pub append_key : Desk → ℕ → List ℕ → ℕ → ℕ → After
append_key d used log bench byte =
    cond (ltb (line_at d bench).len line_most) (edited d used log bench (appended (line_at d bench) byte)) (refused 4 d used log)

-- "32 to 126 are appended, 8 erases, 24 empties the line, 10 is Enter"; 3 when "the byte is none of those"
unfoldable pub key_step : Desk → ℕ → List ℕ → ℕ → ℕ → After
key_step d used log bench byte =
    cond (is_typed byte) (append_key d used log bench byte)
    (cond (eqb byte 8) (edited d used log bench (erased (line_at d bench)))
    (cond (eqb byte 24) (edited d used log bench empty_line)
    (cond (eqb byte 10) (enter d used log bench)
    (refused 3 d used log))))

-- "The first that applies, in this order, is the answer"
unfoldable pub key_of : Desk → ℕ → List ℕ → ℕ → ℕ → After
key_of d used log bench byte =
    cond (ltb bench bench_count)
    (cond (sound_desk d && sound_log d (length log) used) (key_step d used log bench byte) (refused 2 d used log))
    (refused 1 d used log)
