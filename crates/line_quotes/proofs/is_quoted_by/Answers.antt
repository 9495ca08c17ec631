-- `line_quotes::is_quoted_by` meets its contract: each return has the tests of `is_quoted_by` on its way.
-- Assumes nothing.
use borrow.Author.Tests.{eq-eqb, ne_eqb, le-leb, lt-leb}
use Rattle.line_quotes.specs.Quoted.{is_quoted_by}
use Rattle.line_quotes.proofs.Quotes.{inner-part}
use Rattle.line_quotes.proofs.is_quoted_by.Goals as goal

pub returns-then-s-lt2 : goal.returns-then-s-lt2
unfolding is_quoted_by
returns-then-s-lt2 c = simp (lt-leb _ _ c.if-s-lt2.true)

pub returns-then-s-q : goal.returns-then-s-q
unfolding is_quoted_by
returns-then-s-q c = simp (le-leb _ _ c.if-s-lt2.false, ne_eqb _ _ c.if-s-q.true)

pub returns-then-s-last : goal.returns-then-s-last
unfolding is_quoted_by
returns-then-s-last c = simp (le-leb _ _ c.if-s-lt2.false, eq-eqb _ _ c.if-s-q.false, ne_eqb _ _ c.if-s-last.true)

pub returns : goal.returns
unfolding is_quoted_by
returns c =
    simp
    (le-leb _ _ c.if-s-lt2.false, eq-eqb _ _ c.if-s-q.false, eq-eqb _ _ c.if-s-last.false, c.lacks.ensures, inner-part)
