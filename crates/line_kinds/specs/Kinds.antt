-- Which values an item takes: its kind, and the length of its line (document 01, "What the desk holds").
-- Assumes nothing.
use Rattle.std.specs.Prelude.{ℕ, ◌+◌, Bool, true, ◌&&◌, ◌||◌, List, leb, length}
use Rattle.text.specs.Run.{all}
use Rattle.number_decimal.specs.Reading.{is_number}
use Rattle.line_quotes.specs.Quoted.{text_of}
use Rattle.line_categories.specs.Categories.{is_category}
use Rattle.line_values.specs.Value.{is_unassigned, is_value}
use Rattle.line_items.specs.Items.{is_item, item_row}
use Rattle.line_items.specs.Typed.{line_most, is_typed}
use Rattle.line_items.specs.declared.Kind.{Kind}
use Rattle.line_items.specs.declared.Kind.TheVariants.{Text, Number, Category}

-- a value is of a kind; a category stands "bare or quoted"
abbrev pub of_kind : Kind → List ℕ → Bool
of_kind Text v = true
of_kind Number v = is_number v
of_kind Category v = is_category (text_of v)

-- a value passes an item's kind; unassigned "passes every kind". No value passes that of an item that is not there.
unfoldable pub passes : ℕ → List ℕ → Bool
passes item v = is_item item && (is_unassigned v || of_kind (item_row item).kind v)

-- "a value of the form below, bytes 32 to 126, that passes its kind and makes, after its name and one space, a line of at most 80 bytes" (document 02, No. 6: 200)
unfoldable pub fits : ℕ → List ℕ → Bool
fits item v = passes item v && (is_value v && (all is_typed v && leb (length (item_row item).name + 1 + length v) line_most))
