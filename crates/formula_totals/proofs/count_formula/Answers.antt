use mathlib.Core.Path.{sym, ap, subst, ◌∙◌}
use mathlib.Core.List.{◌∷◌}
use Rattle.formula_terms.specs.Term.{term_of}
use Rattle.formula_terms.specs.Terms.{words_left}
use Rattle.formula_sum.specs.Sum.{SmallCount}
use Rattle.formula_sum.proofs.Sums.{term-small}
use Rattle.formula_totals.specs.Counters.{TermLeft}
use Rattle.formula_totals.proofs.Adding.{Counting, counting-none, counting-below, counting_more, counting-fails, counting-end}
use Rattle.formula_totals.proofs.count_formula.Goals as goal
use Rattle.formula_totals.proofs.count_formula.Goals.{In-Some, After-add_term}

at-word : (c : In-Some) → Counting c.args.s.now c.args.counts.now c.loop-word.counts (c.in-Some.word.now ∷ words_left c.next.new.self)
at-word c = subst (Counting _ _ _) c.in-Some.ensures.steps c.loop-word.invariant

added : (c : After-add_term) → TermLeft (term_of c.in-Some.word.now) c.loop-word.counts c.add_term.new.counts c.add_term.result
added c = subst (λ t. TermLeft t c.loop-word.counts c.add_term.new.counts c.add_term.result) c.read_term.ensures c.add_term.ensures

pub loop-word-init : goal.loop-word-init
loop-word-init c =
    subst (Counting _ _ _) (sym (ap words_left c.into_iter-word-iterator.ensures.into_iter_gives ∙ c.cut-word-items.ensures)) (counting-none _ _)

pub add_term-requires : goal.add_term-requires
add_term-requires c = (subst SmallCount (sym c.read_term.ensures) (term-small _), counting-below _ _ c.loop-word.invariant c.requires)

pub returns-in_err-add_term : goal.returns-in_err-add_term
returns-in_err-add_term c =
    let h = at-word (goal.at.returns-in_err-add_term c).In-Some in
    let l = added (goal.at.returns-in_err-add_term c).After-add_term in
    rw c.from_residual.ensures (counting-fails _ _ h _ (subst (TermLeft _ _ _) c.in_err-add_term.was l))

pub loop-word-preserved : goal.loop-word-preserved
loop-word-preserved c =
    let h = at-word (goal.at.loop-word-preserved c).In-Some in
    let l = added (goal.at.loop-word-preserved c).After-add_term in
    counting_more _ _ h c.add_term.auto.counts (subst (TermLeft _ _ _) c.in_ok-add_term.was l)

pub returns : goal.returns
returns c = counting-end _ _ (subst (Counting _ _ _) c.in-None.ensures.steps.0 c.loop-word.invariant)
