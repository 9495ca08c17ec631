-- `hydrogen_start::is_start` meets its contract: the tests of `is_start`, of which that of row 1 follows from the others (`weighed-first`).
-- Assumes nothing.
use mathlib.Core.Path.{sym, ap, ◌∙◌}
use mathlib.Core.Bool.{not, and-false}
use borrow.Author.Tests.{eqb-true, eq-eqb}
use Rattle.hydrogen_right.specs.Right.{all_weighed}
use Rattle.hydrogen_right.specs.Stages.{is_start}
use Rattle.hydrogen_right.proofs.Levels.{level-above, level-none}
use Rattle.hydrogen_right.proofs.Starts.{weighed-first}
use Rattle.hydrogen_start.proofs.is_start.Goals as goal

pub returns-then-second-gt0 : goal.returns-then-second-gt0
unfolding is_start
returns-then-second-gt0 c = simp (level-above c.order_row-second.ensures c.if-second-gt0.true, and-false)

pub returns-then-not-all_weighed : goal.returns-then-not-all_weighed
unfolding is_start
returns-then-not-all_weighed c =
    let unweighed = ap all_weighed (sym c.text_of.ensures) ∙ sym c.all_weighed.ensures ∙ c.if-not-all_weighed.true in
    simp (unweighed, and-false)

pub returns : goal.returns
unfolding is_start
returns c =
    let second = level-none c.order_row-second.ensures c.if-second-gt0.false in
    let weighed = ap all_weighed (sym c.text_of.ensures) ∙ sym c.all_weighed.ensures ∙ c.if-not-all_weighed.false in
    ap not c.is_missing.ensures ∙ simp (eq-eqb _ _ (weighed-first _ (eqb-true _ _ second) weighed), second, weighed)
