-- `reader_entries::take_record` meets its contract: each return has the tests on its way.
-- Assumes nothing.
use native.Mathlib.Omega.{arith}
use mathlib.Core.Path.{◌≡◌, sym, ap, ◌∙◌}
use mathlib.Core.Bool.{true}
use Prim.Native.Nat.{ℕ, ◌-◌}
use lib.ListN.{length, take, drop}
use Rattle.text.proofs.Parts.{rest_part}
use Rattle.desk_memory.specs.Memory.{item_numbers, is_desk, slot, item_from, numbers_of, desk_of, used_of}
use Rattle.desk_memory.proofs.Desks.{desk-sized}
use Rattle.desk_state.specs.Desks.{sheet_of_bench}
use Rattle.desk_log.specs.Record.{head_length, bench_told, item_told}
use Rattle.desk_entries.specs.Entry.{open_to, own_item}
use Rattle.reader_records.specs.Shape.{shaped}
use Rattle.reader_records.proofs.Shapes.{shaped-parts, shaped-long, shaped-item}
use Rattle.reader_entries.proofs.Judged.{taken_none, taken-shapeless, open-asked, taken-foreign, taken-stored, entry-told}
use Rattle.reader_entries.proofs.take_record.Goals as goal
use Rattle.reader_entries.proofs.take_record.Goals.{After-is_open, Else-not-has_shape, Else-not-is_desk}

desk : (c : Else-not-is_desk) → is_desk c.args.texts.now c.args.numbers.now ≡ true
desk c = sym c.is_desk.ensures ∙ c.if-not-is_desk.false

shape : (c : Else-not-has_shape) → (let a = c.args in shaped (used_of a.numbers.now) a.r.now ≡ true)
shape c = sym c.has_shape.ensures ∙ c.if-not-has_shape.false

-- what was asked of the bench's own sheet is so of the item that the record names
asked : (c : After-is_open) → (let a = c.args in
    open_to (own_item (desk_of a.texts.now a.numbers.now) (bench_told a.r.now) (item_told a.r.now)) (bench_told a.r.now) ≡ c.is_open.result)
asked c =
    let desk : is_desk c.args.texts.now c.args.numbers.now ≡ true = sym c.is_desk.ensures ∙ c.if-not-is_desk.false in
    let shape : (let a = c.args in shaped (used_of a.numbers.now) a.r.now ≡ true) = sym c.has_shape.ensures ∙ c.if-not-has_shape.false in
    let a = c.args in
    let b = c.from-bench.ensures in
    let k = c.from-item.ensures in
    let n = a.numbers.now in
    open-asked a.texts.now n a.r.now desk shape c.is_open.result
    (λ v. c.is_open.ensures v ∙ ap (λ (m : ℕ). open_to (item_from v (slot item_numbers (numbers_of n (sheet_of_bench m)) (c.from-item.result - 1))) m) b
    ∙ ap (λ (m : ℕ). open_to (item_from v (slot item_numbers (numbers_of n (sheet_of_bench (bench_told a.r.now))) (m - 1))) (bench_told a.r.now)) k)

pub returns-then-not-is_desk : goal.returns-then-not-is_desk
returns-then-not-is_desk c = let a = c.args in taken_none a.texts.now a.numbers.now a.r.now (sym c.is_desk.ensures ∙ c.if-not-is_desk.true)

pub bounds-numbers-158 : goal.bounds-numbers-158
bounds-numbers-158 c = let s = desk-sized c.args.texts.now c.args.numbers.now (desk (goal.at.bounds-numbers-158 c).Else-not-is_desk) in omega (arith, s.numbers)

pub returns-then-not-has_shape : goal.returns-then-not-has_shape
returns-then-not-has_shape c = let a = c.args in taken-shapeless a.texts.now a.numbers.now a.r.now (desk (goal.at.returns-then-not-has_shape c).Else-not-is_desk) (sym c.has_shape.ensures ∙ c.if-not-has_shape.true)

pub bounds-r-4 : goal.bounds-r-4
bounds-r-4 c = let l = shaped-long _ _ (shape (goal.at.bounds-r-4 c).Else-not-has_shape) in omega (arith, l)

pub bounds-r-5 : goal.bounds-r-5
bounds-r-5 c = let l = shaped-long _ _ (shape (goal.at.bounds-r-5 c).Else-not-has_shape) in omega (arith, l)

pub overflow_sub-item : goal.overflow_sub-item
overflow_sub-item c = let k = shaped-item _ _ (shape (goal.at.overflow_sub-item c).Else-not-has_shape) in omega (arith, k.0, c.from-item.ensures)

pub returns-then-not-is_open : goal.returns-then-not-is_open
returns-then-not-is_open c = let a = c.args in taken-foreign a.texts.now a.numbers.now a.r.now (desk (goal.at.returns-then-not-is_open c).Else-not-is_desk) (shape (goal.at.returns-then-not-is_open c).Else-not-has_shape) ((asked (goal.at.returns-then-not-is_open c).After-is_open) ∙ c.if-not-is_open.true)

pub slice_bounds-put_entry-count : goal.slice_bounds-put_entry-count
slice_bounds-put_entry-count c = let l = shaped-long _ _ (shape (goal.at.slice_bounds-put_entry-count c).Else-not-has_shape) in omega (arith, l)

pub slice_bounds-put_entry-start : goal.slice_bounds-put_entry-start
slice_bounds-put_entry-start c = let l = shaped-long _ _ (shape (goal.at.slice_bounds-put_entry-start c).Else-not-has_shape) in omega (arith, l)

pub overflow_add-start : goal.overflow_add-start
overflow_add-start c = let p = shaped-parts _ _ (shape (goal.at.overflow_add-start c).Else-not-has_shape) in omega (arith, p.within)

pub returns : goal.returns
returns c =
    let a = c.args in
    let r = a.r.now in
    taken-stored a.texts.now a.numbers.now r (desk (goal.at.returns c).Else-not-is_desk) (shape (goal.at.returns c).Else-not-has_shape) _ _ ((asked (goal.at.returns c).After-is_open) ∙ c.if-not-is_open.false)
    (entry-told a.texts.now a.numbers.now r c.from-bench.result c.from-item.result (take (length r - head_length) (drop head_length r)) _ _ _ c.from-bench.ensures c.from-item.ensures (rest_part r head_length) c.put_entry.ensures)
