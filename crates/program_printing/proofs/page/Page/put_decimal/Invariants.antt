-- `program_printing::page::Page::put_decimal` meets its contract. The loop's invariant: the digits of what is left of the number, and then those set from i on, are
-- the number's. Assumes nothing.
use mathlib.Core.Path.{◌≡◌}
use mathlib.Core.List.{◌++◌}
use lib.ListN.{length, drop}
use Rattle.program_printing.specs.Page.{decimal_most}
use Rattle.number_decimal.specs.Digits.{last_digits}
use Rattle.program_printing.specs.Print.{decimal_text}
use Rattle.program_printing.proofs.page.Page.put_decimal.Given as goal

abbrev pub invariant-loop-i : goal.invariant-loop-i
invariant-loop-i l = (l.self ≡ l.initial.self) × (length l.digits ≡ decimal_most) × (decimal_text l.n ≡ last_digits l.i l.rest ++ drop l.i l.digits)
