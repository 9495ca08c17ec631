-- `export_desk::hydrogen::desk_hydrogens_right` meets its contract: that of the call, told by numbers.
-- Assumes nothing.
use mathlib.Core.Path.{◌∙◌}
use Rattle.export_desk.proofs.hydrogen.desk_hydrogens_right.Goals as goal

pub returns : goal.returns
returns c = c.told.ensures ∙ c.check.ensures
