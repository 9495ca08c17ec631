-- The desk that memory holds has the lengths of the arrays of document 01's desk.
-- Assumes nothing.
use mathlib.Core.Path.{ap, ◌∙◌}
use mathlib.Core.List.{List}
use Prim.Native.Nat.{ℕ, ◌+◌, ◌*◌, ◌≤◌, ◌<◌}
use native.Mathlib.Omega.{arith}
use lib.ListN.{length, get_or}
use Rattle.line_items.specs.Typed.{line_most}
use Rattle.line_items.specs.Items.{item_count}
use Rattle.desk_state.specs.Sheets.{no_item}
use Rattle.desk_state.specs.Desks.{bench_count, sheet_count}
use Rattle.desk_state.specs.declared.line.Line.{Line}
use Rattle.desk_state.specs.declared.sheet.Item.{Item}
use Rattle.desk_state.specs.declared.sheet.Sheet.{Sheet}
use Rattle.desk_memory.specs.Memory.{Sized, texts_of, numbers_of, desk_of}
use Rattle.desk_memory.proofs.Slots.{slot-long}
use Rattle.desk_memory.proofs.Desks.{lines_long, line-at, sheets-long, sheet-at, items-long, item-at, item-slot}
use Rattle.theorem_sequences.specs.Shaped.{Shaped}

pub shaped-desk : (t n : List ℕ) → Sized t n → Shaped (desk_of t n)
shaped-desk t n z = record {
  lines = lines_long t n;
  line_bytes = λ b h. ap (λ (l : Line). length l.bytes) (line-at t n b h) ∙ slot-long line_most t b (omega (arith, z.texts));
  sheets = sheets-long t n;
  items = λ s on. ap (λ (x : Sheet). length x.items) (sheet-at t n s on) ∙ items-long (texts_of t s) (numbers_of n s);
  item_bytes = λ s on i h.
      ap (λ (x : Sheet). length (get_or x.items i no_item).value) (sheet-at t n s on) ∙ ap (λ (x : Item). length x.value) (item-at (texts_of t s) (numbers_of n s) i h)
      ∙ ap length (item-slot t s i h) ∙ slot-long line_most t (bench_count + (s * item_count + i)) (within s on i h);
}
  where
    -- an item's slot ends within the texts
    within : (s : ℕ) → s < sheet_count → (i : ℕ) → i < item_count → (bench_count + (s * item_count + i)) * line_most + line_most ≤ length t
    within s on i h = omega (arith, z.texts)
