-- The shape that the types of document 01's desk give it: four lines and, on each of two sheets (document 02, No. 9), its items, each with all its bytes.
-- Assumes nothing.
use Rattle.std.specs.Prelude.{ℕ, ◌<◌, ◌≡◌, length, get_or}
use Rattle.line_items.specs.Typed.{line_most}
use Rattle.line_items.specs.Items.{item_count}
use Rattle.desk_state.specs.Sheets.{no_item}
use Rattle.desk_state.specs.Desks.{bench_count, sheet_count, line_at, sheet_at}
use Rattle.desk_state.specs.declared.desk.Desk.{Desk}

pub record Shaped (d : Desk) : Type 0 where
  pub lines : length d.lines ≡ bench_count
  pub line_bytes : (b : ℕ) → b < bench_count → length (line_at d b).bytes ≡ line_most
  pub sheets : length d.sheets ≡ sheet_count
  pub items : (s : ℕ) → s < sheet_count → length (sheet_at d s).items ≡ item_count
  pub item_bytes : (s : ℕ) → s < sheet_count → (i : ℕ) → i < item_count → length (get_or (sheet_at d s).items i no_item).value ≡ line_most
