-- A sound item in the words of document 01 ("What the desk holds") and document 02, No. 7 and 9.
-- Assumes nothing.
use Rattle.std.specs.Prelude.{ℕ, ◌+◌, ◌≤◌, ◌<◌, ◌≡◌, true, List, length, drop, replicate}
use Rattle.text.specs.Run.{all}
use Rattle.line_values.specs.Wording.{ValueText}
use Rattle.line_items.specs.Items.{item_count, item_row}
use Rattle.line_items.specs.Typed.{line_most, is_typed}
use Rattle.line_kinds.specs.Wording.{Passes}
use Rattle.desk_state.specs.Sheets.{value_in}
use Rattle.desk_state.specs.Desks.{bench_count, sheet_of_bench}
use Rattle.desk_state.specs.declared.sheet.Item.{Item}

-- ".. are zero"
abbrev pub AreZero : List ℕ → Type 0
AreZero bs = bs ≡ replicate (length bs) 0

-- "empty items are zero"; document 02, No. 7: "On a sound desk it is 1 to the entry count where filled, else 0"
pub record EmptyItem (i : Item) : Type 0 where
  pub len : i.len ≡ 0
  pub bench : i.bench ≡ 0
  pub entry : i.entry ≡ 0
  pub times : i.times ≡ 0
  pub value : AreZero i.value

-- "each filled item has bench 0 to 3, an entry number from 1 to the count and a value of the form below, bytes 32 to 126, that passes its kind and makes, after
-- its name and one space, a line of at most 80 (200) bytes .. unused bytes are zero"; the item is k, one of the sheet's. Document 02, No. 7: the number of accepted
-- entries that named it "is 1 to the entry count where filled"; No. 9: "A filled item's bench is one of its sheet's"
pub record FilledItem (sheet count k : ℕ) (i : Item) : Type 0 where
  pub known : k ≤ item_count
  pub some : 1 ≤ i.len
  pub most : i.len ≤ line_most
  pub bench : i.bench < bench_count
  pub camp : sheet_of_bench i.bench ≡ sheet
  pub first : 1 ≤ i.entry
  pub last : i.entry ≤ count
  pub once : 1 ≤ i.times
  pub often : i.times ≤ count
  pub form : ValueText (value_in i)
  pub bytes : all is_typed (value_in i) ≡ true
  pub kind : Passes k (value_in i)
  pub line : length (item_row k).name + 1 + length (value_in i) ≤ line_most
  pub unused : AreZero (drop i.len i.value)

pub data SoundItem (sheet count k : ℕ) (i : Item) : Type 0 where
  empty : EmptyItem i → SoundItem sheet count k i
  filled : FilledItem sheet count k i → SoundItem sheet count k i
