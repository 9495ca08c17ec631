-- `formula_terms::term::with_count` meets its contract: each return is a case of `with_count`.
-- Assumes nothing.
use mathlib.Core.Path.{sym, ap, ◌∙◌}
use Rattle.formula_terms.specs.Term.{with_count}
use Rattle.formula_terms.proofs.term.with_count.Goals as goal

pub returns-in_err-count : goal.returns-in_err-count
returns-in_err-count c = c.from_residual.ensures ∙ sym (ap (with_count _ _) c.in_err-count.was)

pub returns : goal.returns
returns c = sym (ap (with_count _ _) c.in_ok-count.was)
