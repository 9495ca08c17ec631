-- `desk::play_part` meets its contract: what was read is the part.
-- Assumes nothing.
use mathlib.Core.Path.{sym, ◌∙◌}
use borrow.Author.Tests.{eqb-true}
use lib.ListN.{take}
use Rattle.desk.proofs.play_part.Goals as goal

pub returns : goal.returns
returns c =
    record {
      part = take c.read_full-n.result c.read_full-n.new.buf;
      plays = c.play_pairs.ensures;
      full = λ e. sym c.read_full-n.ensures.1 ∙ eqb-true c.read_full-n.result 4096 e;
    }
