-- One entry more on a desk, and which bench may make it (document 01, "Keys and their refusals"; document 02, No. 7, 8 and 9).
-- Assumes nothing.
use Rattle.std.specs.Prelude.{ℕ, ◌+◌, ◌-◌, Bool, ◌||◌, List, eqb, set}
use Rattle.desk_state.specs.Sheets.{filled, item_at}
use Rattle.desk_state.specs.Desks.{sheet_of_bench, sheet_at, with_sheet}
use Rattle.desk_state.specs.declared.sheet.Item.{Item}
use Rattle.desk_state.specs.declared.sheet.Sheet.{Sheet}
use Rattle.desk_state.specs.declared.desk.Desk.{Desk}

-- the sheet with one entry more: its number "is the count after that entry was accepted"; document 02, No. 7: one entry more has named its item
abbrev pub with_entry : Sheet → ℕ → ℕ → List ℕ → Sheet
with_entry s bench item v = record { items = set s.items (item - 1) (filled bench (s.count + 1) ((item_at s item).times + 1) v); count = s.count + 1 }

-- document 02, No. 9: "Benches 0 and 1 fill sheet 0, benches 2 and 3 sheet 1": the desk with one entry more on the bench's own sheet, its lines as they were;
-- "entry counts are per sheet", so that the entry's number is that sheet's
abbrev pub with_entry_on : Desk → ℕ → ℕ → List ℕ → Desk
with_entry_on d bench item v = with_sheet d (sheet_of_bench bench) (with_entry (sheet_at d (sheet_of_bench bench)) bench item v)

-- document 02, No. 8: "The bench whose entry first fills an item owns it, also if that value was unassigned; nobody else may write it": a bench may write an
-- item that is empty, and one that holds its number. An unassigned value is a value of one byte, so an item that holds it is not empty. That the bench which an
-- item holds, the last to write it, is the first is `one_owner` (theorem_sequences/proofs/Owners.antt).
unfoldable pub open_to : Item → ℕ → Bool
open_to i bench = eqb i.len 0 || eqb i.bench bench

-- "ownership and entry counts are per sheet": the item that a bench would write is its own sheet's
abbrev pub own_item : Desk → ℕ → ℕ → Item
own_item d bench item = item_at (sheet_at d (sheet_of_bench bench)) item
