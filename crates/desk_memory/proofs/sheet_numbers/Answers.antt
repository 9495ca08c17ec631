-- `desk_memory::sheet_numbers` meets its contract: the block is past the end, the last and cut short, or whole.
-- Assumes nothing.
use native.Mathlib.Omega.{arith}
use mathlib.Core.Path.{refl, sym, ◌∙◌}
use Prim.Native.Nat.{◌+◌, ◌*◌}
use Rattle.text.proofs.Parts.{rest_part}
use Rattle.desk_state.specs.Desks.{bench_count}
use Rattle.desk_memory.specs.Memory.{sheet_numbers}
use Rattle.desk_memory.proofs.Slots.{block-lent}
use Rattle.desk_memory.proofs.Gets.{block_none, block-rest}
use Rattle.desk_memory.proofs.sheet_numbers.Goals as goal

pub returns-then-numbers-lt-BENCH_COUNT : goal.returns-then-numbers-lt-BENCH_COUNT
returns-then-numbers-lt-BENCH_COUNT c = let a = c.args in sym (block_none sheet_numbers bench_count a.numbers.now a.sheet (omega arith))

pub returns-then-numbers-sheet : goal.returns-then-numbers-sheet
returns-then-numbers-sheet c = let a = c.args in sym (block_none sheet_numbers bench_count a.numbers.now a.sheet (omega arith))

pub returns-then-numbers-from-lt-SHEET_NUMBERS : goal.returns-then-numbers-from-lt-SHEET_NUMBERS
returns-then-numbers-from-lt-SHEET_NUMBERS c =
    let a = c.args in
    let from = bench_count + a.sheet * sheet_numbers in
    rest_part a.numbers.now from ∙ block-rest sheet_numbers bench_count a.numbers.now a.sheet from refl (omega arith)

pub returns : goal.returns
returns c =
    let a = c.args in
    let from = bench_count + a.sheet * sheet_numbers in
    block-lent sheet_numbers a.numbers.now a.sheet bench_count from (from + sheet_numbers) refl refl
