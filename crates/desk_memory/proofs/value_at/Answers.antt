-- `desk_memory::value_at` meets its contract: as many bytes of the item's slot as its first number says.
-- Assumes nothing.
use mathlib.Core.Path.{◌∙◌, ap}
use Prim.Native.Nat.{ℕ}
use lib.ListN.{take}
use Rattle.line_items.specs.Typed.{line_most}
use Rattle.desk_memory.specs.Memory.{slot}
use Rattle.desk_memory.proofs.value_at.Goals as goal

pub returns : goal.returns
returns c =
    let a = c.args in
    c.text_at.ensures ∙ ap (λ (m : ℕ). take m (slot line_most a.texts.now a.k)) c.number_at.ensures
