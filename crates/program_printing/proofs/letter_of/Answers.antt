-- `program_printing::letter_of` meets its contract: a table, and one letter for all other levels.
-- Assumes nothing.
use mathlib.Core.Path.{sym}
use Prim.Native.Nat.{ℕ}
use lib.ListN.{get_or, get_or-eq_default}
use Rattle.text.specs.Quote.{bytes}
use Rattle.text.proofs.Tables.{entry}
use Rattle.program_printing.proofs.letter_of.Goals as goal

pub returns-then-at-lt5 : goal.returns-then-at-lt5
returns-then-at-lt5 c = entry (λ (k : ℕ). get_or (bytes "-GCBA") k 63) 0 5 c.args.level c.if-at-lt5.true

pub returns : goal.returns
returns c = sym (get_or-eq_default (bytes "-GCBA") 63 {n = c.args.level} c.if-at-lt5.false)
