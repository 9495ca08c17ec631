-- `formula_terms::term::between_at` meets its contract: each return has the tests of `kind_at` on its way.
-- Assumes nothing.
use borrow.Author.Tests.{lt-ltb, le-ltb, le-leb, lt-leb}
use Rattle.text.specs.Run.{between, kind_at}
use Rattle.formula_terms.proofs.term.between_at.Goals as goal

pub returns-then-s-at : goal.returns-then-s-at
unfolding kind_at between
returns-then-s-at c = simp (le-ltb _ _ c.if-s-at.true)

pub returns-then-b-lo : goal.returns-then-b-lo
unfolding kind_at between
returns-then-b-lo c = simp (lt-ltb _ _ c.if-s-at.false, lt-leb _ _ c.if-b-lo.true)

pub returns : goal.returns
unfolding kind_at between
returns c = simp (lt-ltb _ _ c.if-s-at.false, le-leb _ _ c.if-b-lo.false)
