-- The desk in memory that the caller lends, two lists. Texts: a slot of the longest line for each bench, then each sheet's block, a slot for each item.
-- Numbers: the length of each bench's line, then each sheet's block, each item's numbers together and then the sheet's count; then the used number.
-- Assumes nothing.
use Rattle.std.specs.Prelude.{◌≡◌, ℕ, zero, suc, ◌+◌, ◌*◌, Bool, ◌&&◌, List, [], ◌∷◌, eqb, length, get_or, take, drop}
use Rattle.line_items.specs.Typed.{line_most}
use Rattle.line_items.specs.Items.{item_count}
use Rattle.desk_state.specs.Desks.{bench_count, sheet_count}
use Rattle.desk_state.specs.declared.line.Line.{Line}
use Rattle.desk_state.specs.declared.sheet.Item.{Item}
use Rattle.desk_state.specs.declared.sheet.Sheet.{Sheet}
use Rattle.desk_state.specs.declared.desk.Desk.{Desk}

-- an item's numbers: the length of its value, its entry number, its bench, and how many accepted entries named it
abbrev pub item_numbers : ℕ
item_numbers = 4

-- a sheet's block: the count stands after the items' numbers
abbrev pub count_at : ℕ
count_at = item_count * item_numbers

abbrev pub sheet_numbers : ℕ
sheet_numbers = count_at + 1

abbrev pub sheet_texts : ℕ
sheet_texts = item_count * line_most

-- where the sheets begin in the texts; in the numbers they begin at bench_count
abbrev pub sheets_at : ℕ
sheets_at = bench_count * line_most

abbrev pub used_at : ℕ
used_at = bench_count + sheet_count * sheet_numbers

abbrev pub texts_length : ℕ
texts_length = sheets_at + sheet_count * sheet_texts

abbrev pub numbers_length : ℕ
numbers_length = used_at + 1

-- memory of any other length is no desk
unfoldable pub is_desk : List ℕ → List ℕ → Bool
is_desk t n = eqb (length t) texts_length && eqb (length n) numbers_length

pub record Sized (t n : List ℕ) : Type 0 where
  pub texts : length t ≡ texts_length
  pub numbers : length n ≡ numbers_length

-- part k of parts of w elements each
unfoldable pub slot : ℕ → List ℕ → ℕ → List ℕ
slot w t k = take w (drop (k * w) t)

-- f i, f (i + 1), .., n values in all
unfoldable pub each : {A : Type 0} → (ℕ → A) → ℕ → ℕ → List A
each f i zero = []
each f i (suc n) = f i ∷ each f (suc i) n

abbrev pub line_from : List ℕ → ℕ → Line
line_from bytes len = record { bytes = bytes; len = len }

abbrev pub item_from : List ℕ → List ℕ → Item
item_from value n = record { value = value; len = get_or n 0 0; entry = get_or n 1 0; bench = get_or n 2 0; times = get_or n 3 0 }

-- the line of a bench
abbrev pub line_in : List ℕ → List ℕ → ℕ → Line
line_in t n k = line_from (slot line_most t k) (get_or n k 0)

-- the item at a place of a sheet's block, counted from 0, and the sheet
abbrev pub item_in : List ℕ → List ℕ → ℕ → Item
item_in t n k = item_from (slot line_most t k) (slot item_numbers n k)

unfoldable pub sheet_from : List ℕ → List ℕ → Sheet
sheet_from t n = record { items = each (item_in t n) 0 item_count; count = get_or n count_at 0 }

-- the block of a sheet, counted from 0, in the texts and in the numbers
abbrev pub texts_of : List ℕ → ℕ → List ℕ
texts_of t s = slot sheet_texts (drop sheets_at t) s

abbrev pub numbers_of : List ℕ → ℕ → List ℕ
numbers_of n s = slot sheet_numbers (drop bench_count n) s

abbrev pub sheet_in : List ℕ → List ℕ → ℕ → Sheet
sheet_in t n s = sheet_from (texts_of t s) (numbers_of n s)

-- the desk that lent memory holds
unfoldable pub desk_of : List ℕ → List ℕ → Desk
desk_of t n = record { lines = each (line_in t n) 0 bench_count; sheets = each (sheet_in t n) 0 sheet_count }

-- the number of used bytes of the log
abbrev pub used_of : List ℕ → ℕ
used_of n = get_or n used_at 0
