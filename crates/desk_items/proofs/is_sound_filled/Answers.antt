-- `desk_items::is_sound_filled` meets its contract: each return has the tests of `sound_filled` on its way.
-- Assumes nothing.
use mathlib.Core.Path.{◌≡◌, sym, ◌∙◌}
use mathlib.Core.Bool.{true}
use lib.Dec.{eqb}
use lib.ListN.{get_or}
use borrow.Author.Tests.{lt-ltb, le-ltb, eq-eqb, ne_eqb}
use Rattle.desk_state.specs.Desks.{bench_count, sheet_of_bench}
use Rattle.desk_items.specs.Sound.{sound_filled, counted}
use Rattle.desk_items.proofs.is_sound_filled.Goals as goal
use Rattle.desk_items.proofs.is_sound_filled.Goals.{Else-not-is_counted, Else-not-is_counted-2, Else-numbers-sheet}

-- the bench is one of the sheet's; the entry number is counted, and how often the item was named
camp : (c : Else-numbers-sheet) → (let a = c.args in eqb (sheet_of_bench (get_or a.numbers.now 2 0)) a.sheet ≡ true)
unfolding sheet_of_bench
camp c = eq-eqb _ _ c.if-numbers-sheet.false

entry-counted : (c : Else-not-is_counted) → (let a = c.args in counted a.count (get_or a.numbers.now 1 0) ≡ true)
entry-counted c = sym c.is_counted.ensures ∙ c.if-not-is_counted.false

times-counted : (c : Else-not-is_counted-2) → (let a = c.args in counted a.count (get_or a.numbers.now 3 0) ≡ true)
times-counted c = sym c.is_counted-2.ensures ∙ c.if-not-is_counted-2.false

pub returns-then-numbers-ge-BENCH_COUNT : goal.returns-then-numbers-ge-BENCH_COUNT
unfolding sound_filled
returns-then-numbers-ge-BENCH_COUNT c = simp (le-ltb _ bench_count c.if-numbers-ge-BENCH_COUNT.true)

pub returns-then-numbers-sheet : goal.returns-then-numbers-sheet
unfolding sound_filled sheet_of_bench
returns-then-numbers-sheet c = simp (lt-ltb _ bench_count c.if-numbers-ge-BENCH_COUNT.false, ne_eqb _ _ c.if-numbers-sheet.true)

pub returns-then-not-is_counted : goal.returns-then-not-is_counted
unfolding sound_filled
returns-then-not-is_counted c = simp (lt-ltb _ bench_count c.if-numbers-ge-BENCH_COUNT.false, (camp (goal.at.returns-then-not-is_counted c).Else-numbers-sheet), sym c.is_counted.ensures ∙ c.if-not-is_counted.true)

pub returns-then-not-is_counted-2 : goal.returns-then-not-is_counted-2
unfolding sound_filled
returns-then-not-is_counted-2 c = simp (lt-ltb _ bench_count c.if-numbers-ge-BENCH_COUNT.false, (camp (goal.at.returns-then-not-is_counted-2 c).Else-numbers-sheet), (entry-counted (goal.at.returns-then-not-is_counted-2 c).Else-not-is_counted), sym c.is_counted-2.ensures ∙ c.if-not-is_counted-2.true)

pub returns : goal.returns
unfolding sound_filled
returns c = c.is_sound_value.ensures ∙ simp (lt-ltb _ bench_count c.if-numbers-ge-BENCH_COUNT.false, (camp (goal.at.returns c).Else-numbers-sheet), (entry-counted (goal.at.returns c).Else-not-is_counted), (times-counted (goal.at.returns c).Else-not-is_counted-2))
