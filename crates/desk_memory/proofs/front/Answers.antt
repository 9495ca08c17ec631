-- `desk_memory::front` meets its contract: all of a text that has no more, or its first bytes.
-- Assumes nothing.
use native.Mathlib.Omega.{arith}
use mathlib.Core.Path.{sym}
use lib.ListN.{length-take}
use lib.Seq.{take_all}
use Rattle.desk_memory.proofs.front.Goals as goal

pub returns-then-s-n : goal.returns-then-s-n
returns-then-s-n c = let a = c.args in sym (take_all a.n a.s.now c.if-s-n.true)

pub slice_bounds-result-end : goal.slice_bounds-result-end
slice_bounds-result-end c = simp length-take (omega arith)
