-- `number_decimal::read_run` meets its contract. The loop's invariant: the i bytes passed are digits, value is what they write after acc, and a word has
-- room for the others. Assumes nothing.
use mathlib.Core.Path.{◌≡◌}
use lib.ListN.{take}
use Rattle.text.specs.Run.{is_digit}
use Rattle.text.proofs.Runs.{Passed}
use Rattle.number_decimal.specs.Digits.{value_from}
use Rattle.number_decimal.proofs.Values.{Room}
use Rattle.number_decimal.proofs.read_run.Given as goal

abbrev pub invariant-loop-i : goal.invariant-loop-i
invariant-loop-i l = Passed is_digit l.s l.i × (l.value ≡ value_from l.acc (take l.i l.s)) × Room l.value l.s l.i
