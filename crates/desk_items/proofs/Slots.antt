-- An item as memory lends it: its slot has the length of a line, and its numbers are all there.
-- Assumes nothing.
use mathlib.Core.Path.{◌≡◌}
use mathlib.Core.List.{List}
use Prim.Native.Nat.{ℕ, ◌<◌}
use borrow.Author.Tests.{lt-ltb, eq-eqb}
use lib.ListN.{length}
use Rattle.line_items.specs.Items.{item_count}
use Rattle.line_items.specs.Typed.{line_most}
use Rattle.desk_memory.specs.Memory.{item_numbers, item_from}
use Rattle.desk_items.specs.Sound.{sound_item, sound_slot}

pub slot-sound : (sheet count k : ℕ) (value numbers : List ℕ) → k < item_count → length value ≡ line_most → length numbers ≡ item_numbers
    → sound_slot sheet count k value numbers ≡ sound_item sheet count k (item_from value numbers)
unfolding sound_slot
slot-sound sheet count k value numbers known slot all = simp (lt-ltb k item_count known, eq-eqb (length value) line_most slot, eq-eqb (length numbers) item_numbers all)
