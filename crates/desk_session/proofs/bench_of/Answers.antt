-- `desk_session::bench_of` meets its contract: the two tests are those of a bench digit.
-- Assumes nothing.
use Rattle.text.specs.Run.{between}
use Rattle.desk_session.specs.Play.{bench_of}
use borrow.Author.Tests.{le-leb, lt-leb}
use Rattle.desk_session.proofs.bench_of.Goals as goal

pub returns-then-first-lt-FIRST_DIGIT : goal.returns-then-first-lt-FIRST_DIGIT
unfolding bench_of between
returns-then-first-lt-FIRST_DIGIT c = simp (lt-leb _ _ c.if-first-lt-FIRST_DIGIT.true)

pub returns-then-first-gt-LAST_DIGIT : goal.returns-then-first-gt-LAST_DIGIT
unfolding bench_of between
returns-then-first-gt-LAST_DIGIT c = simp (le-leb _ _ c.if-first-lt-FIRST_DIGIT.false, lt-leb _ _ c.if-first-gt-LAST_DIGIT.true)

pub returns : goal.returns
unfolding bench_of between
returns c = simp (le-leb _ _ c.if-first-lt-FIRST_DIGIT.false, le-leb _ _ c.if-first-gt-LAST_DIGIT.false)
