-- `formula_words::word_run` meets its contract: the bytes passed are of a word. Assumes nothing.
use Rattle.text.proofs.Runs.{Passed}
use Rattle.formula_moiety.specs.Reading.{in_word}
use Rattle.formula_words.proofs.word_run.Given as goal

abbrev pub invariant-loop-i : goal.invariant-loop-i
invariant-loop-i l = Passed in_word l.s l.i
