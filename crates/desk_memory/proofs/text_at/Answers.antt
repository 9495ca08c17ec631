-- `desk_memory::text_at` meets its contract: the slot is past the end, or the first bytes of what begins there.
-- Assumes nothing.
use native.Mathlib.Omega.{arith}
use mathlib.Core.Path.{sym, ap, ◌∙◌}
use Prim.Native.Nat.{◌*◌}
use lib.ListN.{take}
use lib.Seq.{take-nil}
use Rattle.text.proofs.Parts.{rest_part}
use Rattle.line_items.specs.Typed.{line_most}
use Rattle.desk_memory.specs.Memory.{slot}
use Rattle.desk_memory.proofs.Gets.{slot-none}
use Rattle.desk_memory.proofs.text_at.Goals as goal

pub returns-then-texts-k : goal.returns-then-texts-k
returns-then-texts-k c =
    let a = c.args in
    sym (ap (take a.len) (slot-none line_most a.texts.now a.k (omega arith)) ∙ take-nil a.len)

pub returns : goal.returns
unfolding slot
returns c =
    let a = c.args in
    c.front-2.ensures ∙ ap (take a.len) (c.front.ensures ∙ ap (take line_most) (rest_part a.texts.now (a.k * line_most)))
