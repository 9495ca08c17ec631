-- A sound desk in the words of document 01 ("What the desk holds") and document 02, No. 9.
-- Assumes nothing.
use Rattle.std.specs.Prelude.{ℕ, ◌*◌, ◌≤◌, ◌<◌, ◌≡◌, true, length, drop}
use Rattle.text.specs.Run.{all}
use Rattle.line_items.specs.Typed.{line_most, is_typed}
use Rattle.desk_state.specs.Lines.{typed}
use Rattle.desk_state.specs.Sheets.{item_at}
use Rattle.desk_state.specs.Desks.{line_at, sheet_at}
use Rattle.desk_state.specs.declared.line.Line.{Line}
use Rattle.desk_state.specs.declared.desk.Desk.{Desk}
use Rattle.desk_soundness.specs.SoundLog.{log_most, entry_count}
-- an item's part stands in desk_items, and is passed on
pub use Rattle.desk_items.specs.Wording.{AreZero, EmptyItem, FilledItem, SoundItem}

-- "each line is at most 80 (document 02, No. 6: 200) bytes, all 32 to 126 .. unused bytes are zero"
pub record SoundLine (l : Line) : Type 0 where
  pub most : l.len ≤ line_most
  pub bytes : all is_typed (typed l) ≡ true
  pub unused : AreZero (drop l.len l.bytes)

-- "A desk is sound when each line .., each filled item .., empty items .."; document 02, No. 9: on both sheets, each with its own count
pub record Sound (d : Desk) : Type 0 where
  pub lines : (bench : ℕ) → bench < length d.lines → SoundLine (line_at d bench)
  pub items : (s : ℕ) → s < length d.sheets → (k : ℕ) → 1 ≤ k → k ≤ length (sheet_at d s).items → SoundItem s (sheet_at d s).count k (item_at (sheet_at d s) k)

-- "For key calls also: the log is at most 65,536 bytes long, used is not more than its length, and six times the count is not more than used"; document 02, No. 9:
-- "six times the sum of both counts"
pub record SoundWith (d : Desk) (len used : ℕ) : Type 0 where
  pub most : len ≤ log_most
  pub within : used ≤ len
  pub counted : 6 * entry_count d ≤ used
