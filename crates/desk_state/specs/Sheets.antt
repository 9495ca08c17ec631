-- A sheet and its items (document 01, "What the desk holds").
-- Assumes nothing.
use Rattle.std.specs.Prelude.{ℕ, ◌-◌, List, [], length, get_or, take, replicate}
use Rattle.line_items.specs.Typed.{line_most}
use Rattle.line_items.specs.Items.{item_count}
use Rattle.desk_state.specs.Lines.{padded}
use Rattle.desk_state.specs.declared.sheet.Item.{Item}
use Rattle.desk_state.specs.declared.sheet.Sheet.{Sheet}

-- "Each filled item holds its value as typed (quotes included), the bench, and the entry number"; document 02, No. 7: "Each filled item shall hold the number
-- of accepted entries that named it"
abbrev pub filled : ℕ → ℕ → ℕ → List ℕ → Item
filled bench entry times value = record { value = padded value; len = length value; entry = entry; bench = bench; times = times }

-- "empty items are zero"
abbrev pub empty_item : Item
empty_item = record { value = replicate line_most 0; len = 0; entry = 0; bench = 0; times = 0 }

-- what the logic reads past the end of an array of items
abbrev pub no_item : Item
no_item = record { value = []; len = 0; entry = 0; bench = 0; times = 0 }

-- the item of that number, counted from 1
abbrev pub item_at : Sheet → ℕ → Item
item_at s k = get_or s.items (k - 1) no_item

-- the value that an item holds, as typed; none where it is empty
abbrev pub value_in : Item → List ℕ
value_in i = take i.len i.value

-- the value of the item of that number
abbrev pub value_at : Sheet → ℕ → List ℕ
value_at s k = value_in (item_at s k)

-- a sheet with nothing on it
abbrev pub empty_sheet : Sheet
empty_sheet = record { items = replicate item_count empty_item; count = 0 }
