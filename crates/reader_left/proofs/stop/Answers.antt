-- `reader_left::stop` meets its contract.
-- Assumes nothing.
use mathlib.Core.Path.{◌∙◌}
use Rattle.reader_left.proofs.Lefts.{stop-left}
use Rattle.reader_left.proofs.stop.Goals as goal

pub returns-clause-left : goal.returns-clause-left
returns-clause-left c =
    let state = rw c.keep_first.ensures.state at c.put_state.ensures.state in
    rw c.placed.ensures.number
    (stop-left _ _ _ _ _ _ _ _ (c.put_state.ensures.kept ∙ c.keep_first.ensures.kept) state (c.from.ensures ∙ c.over_with.ensures) c.placed.ensures.place)
