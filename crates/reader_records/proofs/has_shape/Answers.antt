-- `reader_records::has_shape` meets its contract: what is too short for a head has no record's shape.
-- Assumes nothing.
use mathlib.Core.Path.{sym}
use Rattle.reader_records.proofs.Shapes.{short-shapeless}
use Rattle.reader_records.proofs.has_shape.Goals as goal

pub returns-in_default : goal.returns-in_default
returns-in_default c = let a = c.args in sym (short-shapeless a.start a.r.now c.in_default.len_below)
