-- `hydrogen_check::rows_pass` meets its contract: the tests of `rows_pass`, one after the other.
-- Assumes nothing.
use Rattle.hydrogen_right.specs.Stages.{rows_pass}
use Rattle.hydrogen_right.proofs.Levels.{level-above, level-none}
use Rattle.hydrogen_check.proofs.rows_pass.Goals as goal

pub returns-then-first-gt0 : goal.returns-then-first-gt0
unfolding rows_pass
returns-then-first-gt0 c = simp (level-above c.recognised_row-first.ensures c.if-first-gt0.true)

pub returns-then-second-gt0 : goal.returns-then-second-gt0
unfolding rows_pass
returns-then-second-gt0 c = simp (level-none c.recognised_row-first.ensures c.if-first-gt0.false, level-above c.order_row-second.ensures c.if-second-gt0.true)

pub returns-then-fourth-gt0 : goal.returns-then-fourth-gt0
unfolding rows_pass
returns-then-fourth-gt0 c = simp (level-none c.recognised_row-first.ensures c.if-first-gt0.false, level-none c.order_row-second.ensures c.if-second-gt0.false, level-above c.weight_rows-fourth.ensures.0 c.if-fourth-gt0.true)

pub returns : goal.returns
unfolding rows_pass
returns c = simp (level-none c.recognised_row-first.ensures c.if-first-gt0.false, level-none c.order_row-second.ensures c.if-second-gt0.false, level-none c.weight_rows-fourth.ensures.0 c.if-fourth-gt0.false)
