-- `desk_items::is_sound_item` meets its contract: each return has the tests of `sound_slot` on its way; an item with no value is empty.
-- Assumes nothing.
use mathlib.Core.Path.{◌∙◌}
use borrow.Author.Tests.{lt-ltb, le-ltb, eq-eqb, ne_eqb}
use Rattle.desk_items.specs.Sound.{sound_item, sound_slot}
use Rattle.line_items.specs.Items.{item_count}
use Rattle.line_items.specs.Typed.{line_most}
use Rattle.desk_memory.specs.Memory.{item_numbers}
use Rattle.desk_items.proofs.is_sound_item.Goals as goal

pub returns-then-k-ge-ITEM_COUNT : goal.returns-then-k-ge-ITEM_COUNT
unfolding sound_slot
returns-then-k-ge-ITEM_COUNT c = simp (le-ltb _ item_count c.if-k-ge-ITEM_COUNT.true)

pub returns-then-value-ne-LINE_MOST : goal.returns-then-value-ne-LINE_MOST
unfolding sound_slot
returns-then-value-ne-LINE_MOST c = simp (lt-ltb _ item_count c.if-k-ge-ITEM_COUNT.false, ne_eqb _ line_most c.if-value-ne-LINE_MOST.true)

pub returns-then-numbers-ne-ITEM_NUMBERS : goal.returns-then-numbers-ne-ITEM_NUMBERS
unfolding sound_slot
returns-then-numbers-ne-ITEM_NUMBERS c = simp (lt-ltb _ item_count c.if-k-ge-ITEM_COUNT.false, eq-eqb _ line_most c.if-value-ne-LINE_MOST.false, ne_eqb _ item_numbers c.if-numbers-ne-ITEM_NUMBERS.true)

pub returns-then-numbers-eq0 : goal.returns-then-numbers-eq0
unfolding sound_slot sound_item
returns-then-numbers-eq0 c =
    c.is_sound_empty.ensures
    ∙ simp (lt-ltb _ item_count c.if-k-ge-ITEM_COUNT.false, eq-eqb _ line_most c.if-value-ne-LINE_MOST.false, eq-eqb _ item_numbers c.if-numbers-ne-ITEM_NUMBERS.false, eq-eqb _ 0 c.if-numbers-eq0.true)

pub returns-else-numbers-eq0 : goal.returns-else-numbers-eq0
unfolding sound_slot sound_item
returns-else-numbers-eq0 c =
    c.is_sound_filled.ensures
    ∙ simp (lt-ltb _ item_count c.if-k-ge-ITEM_COUNT.false, eq-eqb _ line_most c.if-value-ne-LINE_MOST.false, eq-eqb _ item_numbers c.if-numbers-ne-ITEM_NUMBERS.false, ne_eqb _ 0 c.if-numbers-eq0.false)
