-- The work: what each bench has typed and which entries were accepted, "worked out from the calls and the log's length alone"
-- (document 01, "Sequences of calls"). No desk is mentioned here, and no byte of the log. The entries of all benches stand in one list, the newest first: that is
-- the order of the shared log. What belongs to a sheet is read off the entries of its benches (document 02, No. 9): `entries_of sheet`.
-- Assumes nothing.
use Rattle.std.specs.Prelude.{ℕ, zero, suc, ◌-◌, Bool, cond, List, [], ◌∷◌, ◌++◌, leb, eqb, length, get_or, take, drop, set, replicate, Result, Ok, Err}
use Rattle.line_items.specs.Typed.{is_typed}
use Rattle.line_reader.specs.Line.{class_of}
use Rattle.line_items.specs.Items.{item_count, is_item}
use Rattle.line_reader.specs.declared.line.LineEntry.{LineEntry}
use Rattle.line_reader.specs.declared.line.NoEntry.{NoEntry}
use Rattle.desk_log.specs.Record.{record_of}
use Rattle.desk_state.specs.Sheets.{filled, empty_item}
use Rattle.desk_state.specs.Desks.{bench_count, sheet_of_bench, is_sheet}
use Rattle.rows.specs.Rows.{is_profile}
use Rattle.desk_soundness.specs.SoundLog.{log_most}
use Rattle.desk_state.specs.declared.sheet.Item.{Item}
use Rattle.desk_state.specs.declared.sheet.Sheet.{Sheet}
use Rattle.desk_questions.specs.Who.{Who, nobody}
use Rattle.theorem_refusals.specs.KeyNumber.{key_number}
use Rattle.theorem_work.specs.Calls.{Call, key, ask, report, who, Reply, keyed, reported, told}

-- an accepted entry: its bench, the item that its name has, its value, and the whole line
pub record Entry : Type 0 where
  pub bench : ℕ
  pub item : ℕ
  pub value : List ℕ
  pub line : List ℕ

-- what each bench has typed, and the accepted entries, the newest first
pub record Work : Type 0 where
  pub typed : List (List ℕ)
  pub entries : List Entry

-- "At the start it is nothing"
abbrev pub no_work : Work
no_work = record { typed = replicate bench_count []; entries = [] }

-- what a bench has typed; nothing for a bench that is not there
abbrev pub typed_by : Work → ℕ → List ℕ
typed_by w bench = get_or w.typed bench []

-- "the accepted entries' records in order"
abbrev pub records_of : List Entry → List ℕ
records_of [] = []
records_of (e ∷ es) = records_of es ++ record_of e.bench e.item e.value

-- ---- sheets (document 02, No. 9)

-- the bench fills the sheet: "Benches 0 and 1 fill sheet 0, benches 2 and 3 sheet 1"
abbrev pub on_sheet : ℕ → ℕ → Bool
on_sheet sheet bench = eqb (sheet_of_bench bench) sheet

-- the entries of the sheet's benches: "an item's last entry, an entry's number and the count taken among its own sheet's benches"
abbrev pub entries_of : ℕ → List Entry → List Entry
entries_of sheet [] = []
entries_of sheet (e ∷ es) = cond (on_sheet sheet e.bench) (e ∷ entries_of sheet es) (entries_of sheet es)

-- ---- of the entries of one sheet

-- document 02, No. 7: "the number of accepted entries that named it"
abbrev pub times_of : List Entry → ℕ → ℕ
times_of [] item = 0
times_of (e ∷ es) item = cond (eqb item e.item) (suc (times_of es item)) (times_of es item)

-- document 02, No. 8: "The bench whose entry first fills an item owns it"; of an item that no entry names, the bench that asks
abbrev pub owner_of : List Entry → ℕ → ℕ → ℕ
owner_of [] item bench = bench
owner_of (e ∷ es) item bench = owner_of es item (cond (eqb item e.item) e.bench bench)

-- "nobody else may write it". In the document's words it is specs/Owning.antt, by `may-so` (proofs/OwnerLaws.antt)
abbrev pub may_write : List Entry → ℕ → ℕ → Bool
may_write es item bench = eqb (owner_of es item bench) bench

-- "value, bench and number of the last one that names it, or is empty"; an entry is "numbered by how many there are up to it"; and how many named it
abbrev pub last_of : List Entry → ℕ → Item
last_of [] item = empty_item
last_of (e ∷ es) item = cond (eqb item e.item) (filled e.bench (length (e ∷ es)) (times_of (e ∷ es) item) e.value) (last_of es item)

-- n items, the first of them item k
abbrev pub items_from : (ℕ → Item) → ℕ → ℕ → List Item
items_from f k zero = []
items_from f k (suc n) = f k ∷ items_from f (suc k) n

-- the sheet of some entries: its items and the count, which "is their number"
abbrev pub sheet_of : List Entry → Sheet
sheet_of es = record { items = items_from (last_of es) 1 item_count; count = length es }

-- ---- a key

-- the number of "Keys and their refusals" by tests, for the log's length, the entries so far, what the bench has typed, bench and byte. Owners are those of the
-- bench's own sheet, the used log is that of all. Of what makes a desk sound only the log's length is tested: the rest holds after every sequence (`sound` and
-- `log_sound` of theorem_sequences/specs/Sequences.antt), and the desk, which tests all of it, gives the same answers. That it is the table's is `table` there.
unfoldable pub table_answer : ℕ → List Entry → List ℕ → ℕ → ℕ → ℕ
table_answer len es t bench byte =
    key_number (leb len log_most) t (length t) (λ item. may_write (entries_of (sheet_of_bench bench) es) item bench) (len - length (records_of es)) bench byte

-- "with 0"
abbrev pub accepts : ℕ → Bool
accepts a = eqb a 0

-- "its bench's key appends, erases or empties as above, and its Enter empties"
abbrev pub edited_text : ℕ → List ℕ → List ℕ
edited_text byte t = cond (is_typed byte) (t ++ (byte ∷ [])) (cond (eqb byte 8) (take (length t - 1) t) [])

-- "all else leaves it"
abbrev pub text_after : ℕ → ℕ → List ℕ → List ℕ
text_after a byte t = cond (accepts a) (edited_text byte t) t

-- the entries with that of the line t, if it is one
abbrev pub with_entry_of : Result LineEntry NoEntry → ℕ → List ℕ → List Entry → List Entry
with_entry_of (Err why) bench t es = es
with_entry_of (Ok at) bench t es = record { bench = bench; item = at.item; value = drop at.start t; line = t } ∷ es

-- "An Enter with answer 0 is an accepted entry"
abbrev pub entries_after : ℕ → ℕ → ℕ → List ℕ → List Entry → List Entry
entries_after a bench byte t es = cond (accepts a) (cond (eqb byte 10) (with_entry_of (class_of t) bench t es) es) es

-- the answer of a key, in a log of len bytes
abbrev pub key_answer : ℕ → Work → ℕ → ℕ → ℕ
key_answer len w bench byte = table_answer len w.entries (typed_by w bench) bench byte

-- the work after a key that got that answer
abbrev pub key_work : ℕ → ℕ → ℕ → Work → Work
key_work a bench byte w = record {
  typed = set w.typed bench (text_after a byte (typed_by w bench));
  entries = entries_after a bench byte (typed_by w bench) w.entries;
}

-- ---- a question

-- bench and number of the last entry that names the item, and how many name it
abbrev pub last_told : List Entry → ℕ → Who
last_told [] item = nobody 0
last_told (e ∷ es) item = cond (eqb item e.item) (record { answer = 0; entry = length (e ∷ es); bench = e.bench; times = times_of (e ∷ es) item }) (last_told es item)

-- "6 if not 1 to 10"; document 02, No. 11: "Item numbers up to 18 amend 6", No. 12: up to 19
abbrev pub who_last : List Entry → ℕ → Who
who_last es item = cond (is_item item) (last_told es item) (nobody 6)

-- Who of a sheet; document 02, No. 9: "12, no such sheet, before 2"
abbrev pub who_on : ℕ → List Entry → ℕ → Who
who_on sheet es item = cond (is_sheet sheet) (who_last (entries_of sheet es) item) (nobody 12)

module _ {Rows : Type 0} (rows_of : ℕ → Sheet → Rows) (no_rows : Rows) where
  -- Report of a sheet in a profile: "12, no such sheet, before 2, with the report as with 2"; "21, no such profile, after 12 and before 2"
  abbrev pub report_on : ℕ → ℕ → List Entry → Reply Rows
  report_on sheet profile es = cond (is_sheet sheet) (cond (is_profile profile) (reported 0 (rows_of profile (sheet_of (entries_of sheet es)))) (reported 21 no_rows)) (reported 12 no_rows)

  -- a call, in a log of len bytes; "Report and Who .. answer by the entries before them"
  module _ (len : ℕ) where
    abbrev pub work_step : Call → Work → Reply Rows × Work
    work_step (key bench byte) w = (keyed (key_answer len w bench byte), key_work (key_answer len w bench byte) bench byte w)
    work_step (ask (report sheet profile)) w = (report_on sheet profile w.entries, w)
    work_step (ask (who sheet item)) w = (told (who_on sheet w.entries item), w)
