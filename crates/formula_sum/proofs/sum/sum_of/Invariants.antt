-- `formula_sum::sum::sum_of` meets its contract. The loop's invariant: the sum and the weights of the words left are the total. Assumes nothing.
use Rattle.formula_terms.specs.Terms.{words_left}
use Rattle.formula_sum.proofs.Sums.{Summing}
use Rattle.formula_sum.proofs.sum.sum_of.Given as goal

abbrev pub invariant-loop-word : goal.invariant-loop-word
invariant-loop-word l = Summing l.s l.sum (words_left l.word-iterator)
