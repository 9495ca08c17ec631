-- `desk_entries::can_take` meets its contract: each return has the tests of `takes` on its way.
-- Assumes nothing.
use native.Mathlib.Omega.{arith}
use mathlib.Core.Path.{◌≡◌, refl, sym, ap, ◌∙◌}
use mathlib.Core.Bool.{Bool, true, ◌&&◌}
use mathlib.Core.List.{List}
use Prim.Native.Nat.{ℕ, ◌-◌, ◌≤◌, ◌<◌}
use borrow.Author.Tests.{le-leb, lt-leb, lt-ltb, le-ltb}
use lib.Dec.{ltb}
use lib.ListN.{length, get_or}
use Rattle.line_items.specs.Typed.{line_most}
use Rattle.line_items.specs.Items.{item_count}
use Rattle.desk_state.specs.Desks.{bench_count, sheet_of_bench, sheet_at}
use Rattle.desk_memory.specs.Memory.{item_numbers, count_at, is_desk, slot, numbers_of, desk_of}
use Rattle.desk_memory.proofs.Desks.{desk-sized, numbers-long}
use Rattle.desk_soundness.specs.SoundLog.{log_most}
use Rattle.desk_entries.specs.Entry.{own_item}
use Rattle.desk_entries.specs.Lent.{takes}
use Rattle.desk_entries.proofs.Camps.{sheet-in, own-count, own-times}
use Rattle.desk_entries.proofs.can_take.Goals as goal
use Rattle.desk_entries.proofs.can_take.Goals.{After-sheet_numbers-block, Else-len-gt-LINE_MOST, Else-not-is_desk}

-- the memory has a desk's lengths
is-desk-here : (c : Else-not-is_desk) → (let a = c.args in is_desk a.texts.now a.numbers.now ≡ true)
is-desk-here c = sym c.is_desk.ensures ∙ c.if-not-is_desk.false

-- the numbers of the bench's own sheet
own : (c : After-sheet_numbers-block) → (let a = c.args in c.sheet_numbers-block.result.now ≡ numbers_of a.numbers.now (sheet_of_bench a.bench))
unfolding sheet_of_bench
own c = c.sheet_numbers-block.ensures

pub returns-then-not-is_desk : goal.returns-then-not-is_desk
unfolding takes
returns-then-not-is_desk c = λ v l. simp (sym c.is_desk.ensures ∙ c.if-not-is_desk.true)

pub returns-then-bench-ge-BENCH_COUNT : goal.returns-then-bench-ge-BENCH_COUNT
unfolding takes
returns-then-bench-ge-BENCH_COUNT c = λ v l. simp ((is-desk-here (goal.at.returns-then-bench-ge-BENCH_COUNT c).Else-not-is_desk), le-ltb _ bench_count c.if-bench-ge-BENCH_COUNT.true)

pub returns-then-item-lt1 : goal.returns-then-item-lt1
unfolding takes
returns-then-item-lt1 c = λ v l. simp ((is-desk-here (goal.at.returns-then-item-lt1 c).Else-not-is_desk), lt-ltb _ bench_count c.if-bench-ge-BENCH_COUNT.false, lt-leb 1 _ c.if-item-lt1.true)

pub returns-then-item-gt-ITEM_COUNT : goal.returns-then-item-gt-ITEM_COUNT
unfolding takes
returns-then-item-gt-ITEM_COUNT c = λ v l. simp ((is-desk-here (goal.at.returns-then-item-gt-ITEM_COUNT c).Else-not-is_desk), lt-ltb _ bench_count c.if-bench-ge-BENCH_COUNT.false, le-leb 1 _ c.if-item-lt1.false, lt-leb _ item_count c.if-item-gt-ITEM_COUNT.true)

pub returns-then-len-gt-LINE_MOST : goal.returns-then-len-gt-LINE_MOST
unfolding takes
returns-then-len-gt-LINE_MOST c =
    λ v l.
    simp ((is-desk-here (goal.at.returns-then-len-gt-LINE_MOST c).Else-not-is_desk), lt-ltb _ bench_count c.if-bench-ge-BENCH_COUNT.false, le-leb 1 _ c.if-item-lt1.false, le-leb _ item_count c.if-item-gt-ITEM_COUNT.false, lt-leb (length v) line_most (omega (arith, c.if-len-gt-LINE_MOST.true)))

-- what is left to test, where the first five hold
left : (c : Else-len-gt-LINE_MOST) → (let a = c.args in
    let d = desk_of a.texts.now a.numbers.now in
    (v : List ℕ) → length v ≡ a.len → (x y r : Bool) → ltb (sheet_at d (sheet_of_bench a.bench)).count log_most ≡ x → ltb (own_item d a.bench a.item).times log_most ≡ y
    → r ≡ (x && y) → r ≡ takes a.texts.now a.numbers.now a.bench a.item v)
unfolding takes
left c v l x y r p q e =
    let is-desk-here : (let a = c.args in is_desk a.texts.now a.numbers.now ≡ true) = sym c.is_desk.ensures ∙ c.if-not-is_desk.false in
    e ∙ simp (is-desk-here, lt-ltb _ bench_count c.if-bench-ge-BENCH_COUNT.false, le-leb 1 _ c.if-item-lt1.false, le-leb _ item_count c.if-item-gt-ITEM_COUNT.false, le-leb (length v) line_most (omega (arith, c.if-len-gt-LINE_MOST.false)), p, q)

pub bounds-block-76 : goal.bounds-block-76
bounds-block-76 c =
    let a = c.args in
    let b = c.if-bench-ge-BENCH_COUNT.false in
    let z = desk-sized a.texts.now a.numbers.now (is-desk-here (goal.at.bounds-block-76 c).Else-not-is_desk) in
    omega (arith, ap length (own (goal.at.bounds-block-76 c).After-sheet_numbers-block), numbers-long a.texts.now a.numbers.now z (sheet_of_bench a.bench) (sheet-in a.bench b))

pub returns-then-block-ge-LOG_MOST : goal.returns-then-block-ge-LOG_MOST
returns-then-block-ge-LOG_MOST c =
    let a = c.args in
    let count = (sheet_at (desk_of a.texts.now a.numbers.now) (sheet_of_bench a.bench)).count in
    let many : log_most ≤ count = omega (arith, c.if-block-ge-LOG_MOST.true, own-count a.texts.now a.numbers.now a.bench c.if-bench-ge-BENCH_COUNT.false, ap (λ (x : List ℕ). get_or x count_at 0) (own (goal.at.returns-then-block-ge-LOG_MOST c).After-sheet_numbers-block)) in
    λ v l. (left (goal.at.returns-then-block-ge-LOG_MOST c).Else-len-gt-LINE_MOST) v l _ _ _ (le-ltb count log_most many) refl refl

pub returns : goal.returns
returns c =
    let a = c.args in
    let t = a.texts.now in
    let n = a.numbers.now in
    let b = c.if-bench-ge-BENCH_COUNT.false in
    let few : (sheet_at (desk_of t n) (sheet_of_bench a.bench)).count < log_most = omega (arith, c.if-block-ge-LOG_MOST.false, own-count t n a.bench b, ap (λ (x : List ℕ). get_or x count_at 0) (own (goal.at.returns c).After-sheet_numbers-block)) in
    let times : (own_item (desk_of t n) a.bench a.item).times ≡ c.number_at.result
    = own-times t n a.bench b a.item (omega (arith, c.if-item-gt-ITEM_COUNT.false)) ∙ ap (λ (x : List ℕ). get_or (slot item_numbers x (a.item - 1)) 3 0) (sym (own (goal.at.returns c).After-sheet_numbers-block)) ∙ sym c.number_at.ensures in
    λ v l. (left (goal.at.returns c).Else-len-gt-LINE_MOST) v l _ _ _ (lt-ltb (sheet_at (desk_of t n) (sheet_of_bench a.bench)).count log_most few) (ap (λ (x : ℕ). ltb x log_most) times) refl
