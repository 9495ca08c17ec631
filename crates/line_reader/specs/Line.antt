-- A line and its number (document 01, "A line, a number", "Keys and their refusals").
-- Assumes nothing.
use Rattle.std.specs.Prelude.{ℕ, ◌+◌, cond, ◌&&◌, List, leb, length, take, drop, Option, Some, None, Result, Ok, Err}
use Rattle.text.specs.Run.{run_of, all, between, other, has_at}
use Rattle.line_values.specs.Value.{is_value}
use Rattle.line_items.specs.Items.{item_of}
use Rattle.line_kinds.specs.Kinds.{passes}
use Rattle.line_items.specs.Typed.{line_most, is_typed}
use Rattle.line_reader.specs.declared.line.Parts.{Parts}
use Rattle.line_reader.specs.declared.line.LineEntry.{LineEntry}
use Rattle.line_reader.specs.declared.line.NoEntry.{NoEntry}
use Rattle.line_reader.specs.declared.line.NoEntry.TheVariants.{BadForm, UnknownName, WrongKind}

-- where the name ends: at the first space
abbrev pub name_end : List ℕ → ℕ
name_end t = run_of (other 32) t

-- where the value begins: after the spaces that follow the name
abbrev pub value_start : List ℕ → ℕ
value_start t = name_end t + run_of (between 32 32) (drop (name_end t) t)

-- a line whose name ends at n and whose value begins at v
abbrev pub parts_at : ℕ → ℕ → Option Parts
parts_at n v = Some (record { name_end = n; value_start = v })

-- "a name (first byte _, no spaces), one or more spaces, a value, and nothing after"
unfoldable pub split_of : List ℕ → Option Parts
split_of t =
    cond (has_at t 0 95 && (leb 1 (run_of (between 32 32) (drop (name_end t) t)) && is_value (drop (value_start t) t)))
    (parts_at (name_end t) (value_start t))
    None

-- an entry for the item k, whose value begins at v
abbrev pub entry_at : ℕ → ℕ → Result LineEntry NoEntry
entry_at k v = Ok (record { item = k; start = v })

-- the line t, whose value begins at v, by the item that its name has
abbrev pub named_class : List ℕ → ℕ → Option ℕ → Result LineEntry NoEntry
named_class t v None = Err UnknownName
named_class t v (Some k) = cond (passes k (drop v t)) (entry_at k v) (Err WrongKind)

-- the line t by its parts
abbrev pub split_class : List ℕ → Option Parts → Result LineEntry NoEntry
split_class t None = Err BadForm
split_class t (Some p) = named_class t p.value_start (item_of (take p.name_end t))

-- what a line is: an entry for an item, with the place where its value begins, or the first refusal that applies
unfoldable pub class_of : List ℕ → Result LineEntry NoEntry
class_of t = cond (leb (length t) line_most && all is_typed t) (split_class t (split_of t)) (Err BadForm)

-- document 01's number: "0 accepted", "5 .. the line is not of the form", "6 .. the name is none of the ten" (document 02, No. 11 and 12: of the
-- nineteen), "7 .. the value fails its item's kind"
abbrev pub class_number : Result LineEntry NoEntry → ℕ
class_number (Ok e) = 0
class_number (Err BadForm) = 5
class_number (Err UnknownName) = 6
class_number (Err WrongKind) = 7
