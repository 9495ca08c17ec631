-- `desk_items::is_sound_empty` meets its contract: each return has the tests of `sound_empty` on its way.
-- Assumes nothing.
use mathlib.Core.Path.{◌∙◌}
use borrow.Author.Tests.{eq-eqb, ne_eqb}
use Rattle.desk_items.specs.Sound.{sound_empty}
use Rattle.desk_items.proofs.is_sound_empty.Goals as goal

pub returns-then-numbers-ne0 : goal.returns-then-numbers-ne0
unfolding sound_empty
returns-then-numbers-ne0 c = simp (ne_eqb _ 0 c.if-numbers-ne0.true)

pub returns-then-numbers-ne0-2 : goal.returns-then-numbers-ne0-2
unfolding sound_empty
returns-then-numbers-ne0-2 c = simp (eq-eqb _ 0 c.if-numbers-ne0.false, ne_eqb _ 0 c.if-numbers-ne0-2.true)

pub returns-then-numbers-ne0-3 : goal.returns-then-numbers-ne0-3
unfolding sound_empty
returns-then-numbers-ne0-3 c = simp (eq-eqb _ 0 c.if-numbers-ne0.false, eq-eqb _ 0 c.if-numbers-ne0-2.false, ne_eqb _ 0 c.if-numbers-ne0-3.true)

pub returns : goal.returns
unfolding sound_empty
returns c = c.all_between.ensures ∙ simp (eq-eqb _ 0 c.if-numbers-ne0.false, eq-eqb _ 0 c.if-numbers-ne0-2.false, eq-eqb _ 0 c.if-numbers-ne0-3.false)
