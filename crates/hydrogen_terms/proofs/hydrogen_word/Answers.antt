-- `hydrogen_terms::hydrogen_word` meets its contract: each return is a case of `decimal_of`.
-- Assumes nothing.
use borrow.Author.Tests.{le-leb, lt-leb}
use Rattle.hydrogen_text.specs.Hydrogens.{hydrogen_text}
use Rattle.hydrogen_text.proofs.Digits.{decimal-cases}
use Rattle.hydrogen_terms.proofs.hydrogen_word.Goals as goal

pub returns-then-n-le1 : goal.returns-then-n-le1
unfolding hydrogen_text
returns-then-n-le1 c = simp (le-leb _ _ c.if-n-le1.true)

pub returns-then-n-le9 : goal.returns-then-n-le9
unfolding hydrogen_text
returns-then-n-le9 c = simp (decimal-cases, lt-leb _ _ c.if-n-le1.false, le-leb _ _ c.if-n-le9.true, c.last_digit-ones.ensures)

pub returns-then-n-le99 : goal.returns-then-n-le99
unfolding hydrogen_text
returns-then-n-le99 c = simp (decimal-cases, lt-leb _ _ c.if-n-le1.false, lt-leb _ _ c.if-n-le9.false, le-leb _ _ c.if-n-le99.true, c.last_digit-ones.ensures, c.last_digit-tens.ensures)

pub returns-then-n-le999 : goal.returns-then-n-le999
unfolding hydrogen_text
returns-then-n-le999 c =
    simp (
      decimal-cases,
      lt-leb _ _ c.if-n-le1.false,
      lt-leb _ _ c.if-n-le9.false,
      lt-leb _ _ c.if-n-le99.false,
      le-leb _ _ c.if-n-le999.true,
      c.last_digit-ones.ensures,
      c.last_digit-tens.ensures,
      c.last_digit-hundreds.ensures,
    )

pub returns : goal.returns
unfolding hydrogen_text
returns c =
    simp (
      decimal-cases,
      lt-leb _ _ c.if-n-le1.false,
      lt-leb _ _ c.if-n-le9.false,
      lt-leb _ _ c.if-n-le99.false,
      lt-leb _ _ c.if-n-le999.false,
      c.last_digit-ones.ensures,
      c.last_digit-tens.ensures,
      c.last_digit-hundreds.ensures,
      c.last_digit.ensures,
    )
