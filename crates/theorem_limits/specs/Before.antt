-- What stood before the limit of a line became 200 (document 02, No. 6), and what is claimed of it.
-- Assumes nothing.
use Rattle.std.specs.Prelude.{ℕ, ◌+◌, ◌*◌, ◌/◌, ◌%◌, ◌≡◌, Bool, cond, ◌&&◌, List, ◌∷◌, leb, ltb, length, take, Option, Some, None, Result, Err}
use Rattle.text.specs.Run.{all}
use Rattle.line_items.specs.Items.{items, find_from}
use Rattle.line_items.specs.Typed.{is_typed}
use Rattle.line_reader.specs.Line.{split_of, named_class}
use Rattle.line_reader.specs.declared.line.Parts.{Parts}
use Rattle.line_reader.specs.declared.line.LineEntry.{LineEntry}
use Rattle.line_reader.specs.declared.line.NoEntry.{NoEntry}
use Rattle.line_reader.specs.declared.line.NoEntry.TheVariants.{BadForm}
use Rattle.desk_log.specs.Record.{record_fits, record_length}
use Rattle.desk_state.specs.Desks.{bench_count, is_sheet}
use Rattle.rows.specs.Rows.{is_profile, no_rows}
use Rattle.desk_keys.specs.Key.{After}
use Rattle.desk_keys.specs.Lent.{KeyLent}
use Rattle.desk_questions.specs.Report.{reported_as, report_lent}
use Rattle.desk_questions.specs.Who.{nobody, who_lent}
use Rattle.desk_hydrogen.specs.Hydrogens.{no_count, helper_lent, check_lent}
use Rattle.reader_feed.specs.Feed.{FeedLent}
use Rattle.file_cif.specs.Answers.{no_file, file_lent}

-- document 01's limit: "one unfinished line of 0 to 80 bytes"
abbrev pub old_most : ℕ
old_most = 80

-- the items of document 01, the first of the table: "6 .. the name is none of the ten"
abbrev pub old_count : ℕ
old_count = 10

-- the item of a name, if it is one of the ten
abbrev pub old_item_of : List ℕ → Option ℕ
old_item_of s = find_from 1 (take old_count items) s

-- the line t by its parts, with those names
abbrev pub old_split_class : List ℕ → Option Parts → Result LineEntry NoEntry
old_split_class t None = Err BadForm
old_split_class t (Some p) = named_class t p.value_start (old_item_of (take p.name_end t))

-- what a line was by that limit, with those names
unfoldable pub old_class : List ℕ → Result LineEntry NoEntry
old_class t = cond (leb (length t) old_most && all is_typed t) (old_split_class t (split_of t)) (Err BadForm)

-- a record, byte by byte: "length of the whole record (two bytes), kind 1 (two bytes), bench, item, the value as typed; numbers are little-endian"
abbrev pub old_record : ℕ → ℕ → List ℕ → List ℕ
old_record bench item value = (6 + length value) % 256 ∷ (6 + length value) / 256 % 256 ∷ 1 ∷ 0 ∷ bench ∷ item ∷ value

-- the memory of a desk saved by the build before: a slot of that limit for each of four benches and ten items; 36 numbers
pub record SavedBefore (t n : List ℕ) : Type 0 where
  pub texts : length t ≡ (4 + 10) * old_most
  pub numbers : length n ≡ 36

-- "A desk saved by the old build is not taken over": every call answers 2 (a key of no bench 1; document 02, No. 9: of no sheet 12; No. 11: of no profile 21), a part of a log (No. 10) and the hydrogens (No. 13) too, and changes nothing
pub record NotTaken (t n : List ℕ) : Type 0 where
  pub key : {log t' n' log' : List ℕ} {bench byte a : ℕ} → KeyLent t n log bench byte a t' n' log'
      → (a ≡ cond (ltb bench bench_count) 2 1) × (t' ≡ t) × (n' ≡ n) × (log' ≡ log)
  pub report : (sheet profile : ℕ) → report_lent t n sheet profile ≡ reported_as (cond (is_sheet sheet) (cond (is_profile profile) 2 21) 12) no_rows
  pub who : (sheet item : ℕ) → who_lent t n sheet item ≡ nobody (cond (is_sheet sheet) 2 12)
  pub file : (sheet : ℕ) (name out : List ℕ) → file_lent t n sheet name out ≡ no_file (cond (is_sheet sheet) 2 12) out
  pub hydrogens : (sheet : ℕ) → helper_lent t n sheet ≡ no_count (cond (is_sheet sheet) 2 12)
  pub right : (sheet count : ℕ) → check_lent t n sheet count ≡ no_count (cond (is_sheet sheet) 2 12)
  pub feed : {k z part t' n' k' z' : List ℕ} {last : Bool} {a place : ℕ} → FeedLent t n k z part last a place t' n' k' z'
      → (a ≡ 2) × (place ≡ 0) × (t' ≡ t) × (n' ≡ n) × (k' ≡ k) × (z' ≡ z)
