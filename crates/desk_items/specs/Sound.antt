-- When an item is sound (document 01, "What the desk holds"; document 02, No. 7 and 9).
-- Assumes nothing.
use Rattle.std.specs.Prelude.{ℕ, ◌+◌, Bool, cond, ◌&&◌, List, length, drop, ltb, leb, eqb}
use Rattle.text.specs.Run.{all, between}
use Rattle.line_items.specs.Items.{item_count}
use Rattle.line_items.specs.Typed.{line_most}
use Rattle.line_kinds.specs.Kinds.{fits}
use Rattle.desk_state.specs.Sheets.{value_in}
use Rattle.desk_state.specs.Desks.{bench_count, sheet_of_bench}
use Rattle.desk_state.specs.declared.sheet.Item.{Item}
use Rattle.desk_memory.specs.Memory.{item_numbers, item_from}

-- zeros
abbrev pub zeros : List ℕ → Bool
zeros bs = all (between 0 0) bs

-- "empty items are zero"; document 02, No. 7: "else 0"
unfoldable pub sound_empty : Item → Bool
sound_empty i = eqb i.bench 0 && (eqb i.entry 0 && (eqb i.times 0 && zeros i.value))

-- "from 1 to the count"
unfoldable pub counted : ℕ → ℕ → Bool
counted count n = leb 1 n && leb n count

-- "each filled item has bench 0 to 3, an entry number from 1 to the count and a value .. " that its item, k, can hold; "unused bytes are zero"; document 02,
-- No. 7: how often it was named "is 1 to the entry count where filled"; document 02, No. 9: "A filled item's bench is one of its sheet's"
unfoldable pub sound_filled : ℕ → ℕ → ℕ → Item → Bool
sound_filled sheet count k i =
    ltb i.bench bench_count && (eqb (sheet_of_bench i.bench) sheet && (counted count i.entry && (counted count i.times
    && (leb i.len line_most && (fits k (value_in i) && zeros (drop i.len i.value))))))

-- an item at place k, counted from 0, of that sheet, which has that count; it is filled when it has a value
unfoldable pub sound_item : ℕ → ℕ → ℕ → Item → Bool
sound_item sheet count k i = cond (eqb i.len 0) (sound_empty i) (sound_filled sheet count (k + 1) i)

-- the same of an item in memory, by its slot of the texts and its numbers; of other lengths, or past the last item, there is none
unfoldable pub sound_slot : ℕ → ℕ → ℕ → List ℕ → List ℕ → Bool
sound_slot sheet count k value numbers =
    ltb k item_count && (eqb (length value) line_most && (eqb (length numbers) item_numbers && sound_item sheet count k (item_from value numbers)))
