-- `desk_items::is_counted` meets its contract: the two tests of `counted`.
-- Assumes nothing.
use borrow.Author.Tests.{le-leb, lt-leb}
use Rattle.desk_items.specs.Sound.{counted}
use Rattle.desk_items.proofs.is_counted.Goals as goal

pub returns-then-n-lt1 : goal.returns-then-n-lt1
unfolding counted
returns-then-n-lt1 c = simp (lt-leb 1 _ c.if-n-lt1.true)

pub returns : goal.returns
unfolding counted
returns c = simp (le-leb 1 _ c.if-n-lt1.false)
