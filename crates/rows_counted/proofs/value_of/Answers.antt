-- `rows_counted::value_of` meets its contract: what is read at the place of an item that is there is its value.
-- Assumes nothing.
use native.Mathlib.Omega.{arith}
use mathlib.Core.Path.{◌≡◌, ap, ◌∙◌}
use Prim.Native.Nat.{ℕ, ◌-◌}
use Rattle.desk_state.specs.Sheets.{value_in}
use Rattle.desk_memory.specs.Memory.{item_in}
use Rattle.rows_counted.proofs.Values.{value_read}
use Rattle.rows_counted.proofs.value_of.Goals as goal

pub returns-clause-item : goal.returns-clause-item
returns-clause-item c h =
    let a = c.args in
    value_read a.texts.now a.numbers.now _ a.item h (c.value_at.ensures ∙ ap (λ (k : ℕ). value_in (item_in a.texts.now a.numbers.now k)) c.saturating_sub.ensures)
