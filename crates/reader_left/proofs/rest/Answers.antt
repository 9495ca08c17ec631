-- `reader_left::rest` meets its contract: what the last part leaves is a case of `short`.
-- Assumes nothing.
use Rattle.reader_left.proofs.Lefts.{short-ended, short-inside}
use Rattle.reader_left.proofs.rest.Goals as goal
use Rattle.reader_left.proofs.rest.Goals.{then-is_empty, else-is_empty}

pub returns-then-last-clause-left : goal.returns-then-last-clause-left
returns-then-last-clause-left c =
    let a = c.args in
    λ d. rw c.if-last.true
    (elim c.if-is_empty.branch [
      | then-is_empty w ↦ rw (← short-ended d a.at a.bs.now w.if-is_empty.ensures) (rw w.answer-is at c.stop.ensures.left d)
      | else-is_empty w ↦ rw (← short-inside d a.at a.bs.now w.if-is_empty.ensures) (rw w.answer-is at c.stop.ensures.left d)
    ])
