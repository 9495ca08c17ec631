-- `formula_totals::moieties::read_word` meets its contract. Assumes nothing.
use mathlib.Core.Path.{sym, subst}
use lib.ListN.{take}
use lib.Seq.{length-take-le}
use Rattle.formula_terms.specs.Term.{term_of}
use Rattle.formula_sum.specs.Sum.{SmallCount}
use Rattle.formula_sum.proofs.Sums.{term-small}
use Rattle.formula_totals.specs.Counters.{TermLeft}
use Rattle.formula_totals.proofs.WordCases.{word-fails, word-takes}
use Rattle.formula_totals.proofs.moieties.read_word.Goals as goal
use Rattle.formula_totals.proofs.moieties.read_word.Goals.{After-add_term}

left : (c : After-add_term) → TermLeft (term_of (take c.word_run-n.result c.args.s.now)) c.args.counts.now c.add_term.new.counts c.add_term.result
left c = subst (λ t. TermLeft t c.args.counts.now c.add_term.new.counts c.add_term.result) c.read_term.ensures c.add_term.ensures

pub slice_bounds-read_term-end : goal.slice_bounds-read_term-end
slice_bounds-read_term-end c = sym (length-take-le _ _ c.word_run-n.ensures.1)

pub add_term-requires : goal.add_term-requires
add_term-requires c = (subst SmallCount (sym c.read_term.ensures) (term-small _), c.requires)

pub returns-in_err-add_term : goal.returns-in_err-add_term
returns-in_err-add_term c =
    rw c.from_residual.ensures
    (word-fails _ _ _ _ c.word_run-n.ensures.0 (subst (TermLeft _ _ _) c.in_err-add_term.was (left (goal.at.returns-in_err-add_term c).After-add_term)))

pub returns : goal.returns
returns c =
    word-takes _ _ _ _ c.word_run-n.ensures.0 c.word_run-n.ensures.1
    (subst (TermLeft _ _ _) c.in_ok-add_term.was (left (goal.at.returns c).After-add_term))
