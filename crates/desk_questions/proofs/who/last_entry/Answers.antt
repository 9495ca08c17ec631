-- `desk_questions::who::last_entry` meets its contract: the item is empty or not.
-- Assumes nothing.
use native.Mathlib.Omega.{arith}
use mathlib.Core.Path.{sym, ◌∙◌}
use borrow.Author.Tests.{eq-eqb, ne_eqb}
use Rattle.desk_questions.specs.Who.{told_of}
use Rattle.desk_questions.proofs.who.last_entry.Goals as goal

pub returns-then-number_at-eq0 : goal.returns-then-number_at-eq0
unfolding told_of
returns-then-number_at-eq0 c = λ v. simp (eq-eqb _ 0 (sym c.number_at.ensures ∙ c.if-number_at-eq0.true))

pub overflow_cast-result : goal.overflow_cast-result
overflow_cast-result c =
    let filled = c.requires (λ z. c.if-number_at-eq0.false (c.number_at.ensures ∙ z)) in
    omega (arith, c.number_at-bench.ensures, filled)

pub returns : goal.returns
unfolding told_of
returns c = λ v. simp (ne_eqb _ 0 (λ z. c.if-number_at-eq0.false (c.number_at.ensures ∙ z)), c.number_at-entry.ensures, c.number_at-bench.ensures, c.number_at-times.ensures)
