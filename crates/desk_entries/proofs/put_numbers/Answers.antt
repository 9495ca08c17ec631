-- `desk_entries::put_numbers` meets its contract: the item's numbers one after the other, and the count.
-- Assumes nothing.
use native.Mathlib.Omega.{arith}
use lib.ListN.{length-set}
use Rattle.desk_memory.specs.Memory.{item_numbers}
use Rattle.desk_memory.proofs.Slots.{slot-get}
use Rattle.desk_entries.proofs.Stores.{numbers-stored}
use Rattle.desk_entries.proofs.put_numbers.Goals as goal

pub overflow_add-times-2 : goal.overflow_add-times-2
overflow_add-times-2 c = omega (arith, c.requires.1.times, slot-get item_numbers c.args.numbers.now c.args.k 3 (omega arith))

pub returns : goal.returns
returns c =
    let a = c.args in
    numbers-stored a.numbers.now a.k a.len a.bench c.requires.0 c.requires.2

pub bounds-numbers-at-3 : goal.bounds-numbers-at-3
bounds-numbers-at-3 c = simp length-set (omega arith)

pub bounds-numbers-at-4 : goal.bounds-numbers-at-4
bounds-numbers-at-4 c = simp length-set (omega arith)

pub bounds-numbers-at-5 : goal.bounds-numbers-at-5
bounds-numbers-at-5 c = simp length-set (omega arith)

pub bounds-numbers-76-2 : goal.bounds-numbers-76-2
bounds-numbers-76-2 c = simp length-set (omega arith)
