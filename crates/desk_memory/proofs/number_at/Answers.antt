-- `desk_memory::number_at` meets its contract: the number stands in the list, or past the item's or the list's end.
-- Assumes nothing.
use native.Mathlib.Omega.{arith}
use mathlib.Core.Path.{sym}
use Rattle.desk_memory.specs.Memory.{item_numbers}
use Rattle.desk_memory.proofs.Slots.{slot-get}
use Rattle.desk_memory.proofs.Gets.{get-past, get_none}
use Rattle.desk_memory.proofs.number_at.Goals as goal

pub returns-then-i-ge-ITEM_NUMBERS : goal.returns-then-i-ge-ITEM_NUMBERS
returns-then-i-ge-ITEM_NUMBERS c = let a = c.args in sym (get-past item_numbers a.numbers.now a.k a.i (omega arith))

pub returns-then-numbers-k : goal.returns-then-numbers-k
returns-then-numbers-k c = let a = c.args in sym (get_none item_numbers a.numbers.now a.k a.i (omega arith) (omega arith))

pub returns-then-at-numbers : goal.returns-then-at-numbers
returns-then-at-numbers c = let a = c.args in sym (slot-get item_numbers a.numbers.now a.k a.i (omega arith))

pub returns-else-at-numbers : goal.returns-else-at-numbers
returns-else-at-numbers c = let a = c.args in sym (get_none item_numbers a.numbers.now a.k a.i (omega arith) (omega arith))
