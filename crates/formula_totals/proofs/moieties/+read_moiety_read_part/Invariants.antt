-- The proof of the cycle of calls {read_moiety, read_part}. The measure is twice the length of the text, and one more for a moiety, which begins with
-- a part at the same text. Assumes nothing.
use Prim.Native.Nat.{◌+◌, ◌*◌}
use lib.ListN.{length}
use Rattle.formula_totals.proofs.moieties.+read_moiety_read_part.Given as goal

abbrev pub decreases-read_moiety : goal.decreases-read_moiety
decreases-read_moiety l = 2 * length l.s.now + 1

abbrev pub decreases-read_part : goal.decreases-read_part
decreases-read_part l = 2 * length l.s.now
