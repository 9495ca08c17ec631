-- The bytes of a sheet's CIF file (document 02, No. 1).
-- Assumes nothing.
use Rattle.std.specs.Prelude.{ℕ, ◌+◌, cond, List, [], ◌∷◌, ◌++◌, eqb}
use Rattle.text.specs.Quote.{bytes}
use Rattle.text_copies.specs.Each.{lines_from}
use Rattle.line_items.specs.Items.{name_most, name_of}
use Rattle.line_items.specs.Typed.{line_most}
use Rattle.desk_state.specs.Sheets.{value_in}
use Rattle.desk_state.specs.declared.sheet.Item.{Item}
use Rattle.desk_state.specs.declared.sheet.Sheet.{Sheet}

-- "every line ended by byte 10"
abbrev pub ended_line : List ℕ → List ℕ
ended_line t = t ++ (10 ∷ [])

-- "its name as in document 01, one space, the value as typed"
abbrev pub item_text : ℕ → List ℕ → List ℕ
item_text k v = name_of k ++ (32 ∷ v)

-- no item's line is longer, whatever desk it stands on: name, space, value, end byte
abbrev pub item_line_most : ℕ
item_line_most = name_most + 1 + line_most + 1

-- the line of item k; none for an empty item
unfoldable pub item_line : ℕ → Item → List ℕ
item_line k i = cond (eqb i.len 0) [] (ended_line (item_text k (value_in i)))

-- "a line data_ with a block name .., then each filled item in item order"
unfoldable pub file_of : List ℕ → Sheet → List ℕ
file_of name s = ended_line (bytes "data_" ++ name) ++ lines_from item_line 1 s.items
