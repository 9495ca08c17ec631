-- `formula_totals::count_formula` meets its contract: the terms of the words passed are counted. Assumes nothing.
use Rattle.formula_terms.specs.Terms.{words_left}
use Rattle.formula_totals.proofs.Adding.{Counting}
use Rattle.formula_totals.proofs.count_formula.Given as goal

abbrev pub invariant-loop-word : goal.invariant-loop-word
invariant-loop-word l = Counting l.s l.initial.counts l.counts (words_left l.word-iterator)
