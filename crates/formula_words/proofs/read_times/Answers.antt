-- `formula_words::read_times` meets its contract. Assumes nothing.
use Rattle.std.specs.Prelude.{Some}
use mathlib.Core.Path.{◌≡◌, sym, ◌∙◌}
use Rattle.formula_terms.specs.Term.{count_of}
use Rattle.formula_words.proofs.Times.{no-times, too_many, few-times}
use Rattle.formula_words.proofs.read_times.Goals as goal
use Rattle.formula_words.proofs.read_times.Goals.{In_ok-n}

counted : (c : In_ok-n) → count_of c.args.s.now ≡ Some c.in_ok-n.n
counted c = sym c.read_count.ensures ∙ c.in_ok-n.was

pub returns-in_err-n : goal.returns-in_err-n
returns-in_err-n c = c.from_residual.ensures ∙ sym (no-times _ (sym c.read_count.ensures ∙ c.in_err-n.was))

pub returns-then-n-gt-MOST_TIMES : goal.returns-then-n-gt-MOST_TIMES
returns-then-n-gt-MOST_TIMES c = sym (too_many _ _ (counted (goal.at.returns-then-n-gt-MOST_TIMES c).In_ok-n) c.if-n-gt-MOST_TIMES.true)

pub returns : goal.returns
returns c = sym (few-times _ _ (counted (goal.at.returns c).In_ok-n) c.if-n-gt-MOST_TIMES.false)
