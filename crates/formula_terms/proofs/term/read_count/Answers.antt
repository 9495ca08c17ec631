-- `formula_terms::term::read_count` meets its contract: no text, a leading zero, and the digits that were read or not.
-- Assumes nothing.
use Rattle.std.specs.Prelude.{Some}
use mathlib.Core.Path.{◌≡◌, sym, ◌∙◌}
use borrow.Author.Tests.{eq-eqb}
use Rattle.number_decimal.specs.Reading.{whole_of}
use Rattle.formula_terms.specs.Term.{count_of}
use Rattle.formula_terms.proofs.Counts.{no-count, leading-zero, unread, over, read}
use Rattle.formula_terms.proofs.term.read_count.Goals as goal
use Rattle.formula_terms.proofs.term.read_count.Goals.{In_ok-n}

digits : (c : In_ok-n) → whole_of c.args.s.now ≡ Some c.in_ok-n.n
digits c = sym c.read_digits.ensures ∙ c.in_ok-n.was

pub returns-then-s-eq0 : goal.returns-then-s-eq0
unfolding count_of
returns-then-s-eq0 c = simp (eq-eqb _ _ c.if-s-eq0.true)

pub returns-then-s-eq48 : goal.returns-then-s-eq48
returns-then-s-eq48 c = sym (no-count _ c.if-s-eq0.false (leading-zero _ c.if-s-eq48.true))

pub returns-in_err-n : goal.returns-in_err-n
returns-in_err-n c = c.from_residual.ensures ∙ sym (unread _ c.if-s-eq0.false c.if-s-eq48.false (sym c.read_digits.ensures ∙ c.in_err-n.was))

pub returns-then-n-gt-MOST_COUNT : goal.returns-then-n-gt-MOST_COUNT
returns-then-n-gt-MOST_COUNT c = sym (over _ c.if-s-eq0.false c.if-s-eq48.false _ (digits (goal.at.returns-then-n-gt-MOST_COUNT c).In_ok-n) c.if-n-gt-MOST_COUNT.true)

pub returns : goal.returns
returns c = sym (read _ c.if-s-eq0.false c.if-s-eq48.false _ (digits (goal.at.returns c).In_ok-n) c.if-n-gt-MOST_COUNT.false)
