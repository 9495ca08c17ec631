use mathlib.Core.Path.{sym, ap, subst, ◌∙◌}
use mathlib.Core.List.{◌∷◌}
use borrow.Author.Tests.{le-leb, lt-leb}
use Rattle.formula_terms.specs.Terms.{words_left}
use Rattle.formula_sum.specs.Sum.{SmallCount, SmallWeight, term_weight, sum_of}
use Rattle.formula_sum.proofs.Sums.{Summing, term-small, sum-start, sum-next, sum-none, sum-end}
use Rattle.formula_sum.proofs.sum.sum_of.Goals as goal
use Rattle.formula_sum.proofs.sum.sum_of.Goals.{In-Some}

at-word : (c : In-Some) → Summing c.args.s.now c.loop-word.sum (c.in-Some.word.now ∷ words_left c.next.new.self)
at-word c = subst (Summing _ _) c.in-Some.ensures.steps c.loop-word.invariant

pub returns-then-s-gt-MOST_SUMMED : goal.returns-then-s-gt-MOST_SUMMED
unfolding sum_of
returns-then-s-gt-MOST_SUMMED c = simp (lt-leb _ _ c.if-s-gt-MOST_SUMMED.true)

pub loop-word-init : goal.loop-word-init
loop-word-init c = subst (Summing _ _) (sym (ap words_left c.into_iter-word-iterator.ensures.into_iter_gives ∙ c.cut-word-items.ensures)) (sum-start _)

pub term_weight-requires : goal.term_weight-requires
term_weight-requires c = subst SmallCount (sym c.read_term.ensures) (term-small _)

pub returns-in_err-sum : goal.returns-in_err-sum
unfolding sum_of
returns-in_err-sum c =
    let none = sum-none (at-word (goal.at.returns-in_err-sum c).In-Some) (ap term_weight (sym c.read_term.ensures) ∙ sym c.term_weight.ensures.0 ∙ c.in_err-sum.was) in
    c.from_residual.ensures ∙ sym (simp (le-leb _ _ c.if-s-gt-MOST_SUMMED.false) none)

pub loop-word-preserved : goal.loop-word-preserved
loop-word-preserved c =
    sum-next (at-word (goal.at.loop-word-preserved c).In-Some) _ (ap term_weight (sym c.read_term.ensures) ∙ sym c.term_weight.ensures.0 ∙ c.in_ok-sum.was)
    (subst SmallWeight c.in_ok-sum.was c.term_weight.ensures.1)

pub returns : goal.returns
unfolding sum_of
returns c = sym (simp (le-leb _ _ c.if-s-gt-MOST_SUMMED.false) (sum-end (subst (Summing _ _) c.in-None.ensures.steps.0 c.loop-word.invariant)))
