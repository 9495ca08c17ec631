-- The proof of the cycle of calls {read_moieties}. The measure is the length of the text. Assumes nothing.
use lib.ListN.{length}
use Rattle.formula_totals.proofs.moieties.+read_moieties.Given as goal

abbrev pub decreases-read_moieties : goal.decreases-read_moieties
decreases-read_moieties l = length l.s.now
