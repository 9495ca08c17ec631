-- When a desk is sound (document 01, "What the desk holds"; document 02, No. 9); the part on the log is in SoundLog.
-- Assumes nothing.
use Rattle.std.specs.Prelude.{ℕ, suc, List, [], ◌∷◌, Bool, true, ◌&&◌, drop, leb}
use Rattle.text.specs.Run.{all}
use Rattle.line_items.specs.Typed.{line_most, is_typed}
use Rattle.desk_state.specs.Lines.{typed}
use Rattle.desk_state.specs.declared.line.Line.{Line}
use Rattle.desk_state.specs.declared.sheet.Sheet.{Sheet}
use Rattle.desk_state.specs.declared.desk.Desk.{Desk}
-- an item's part stands in desk_items, and is passed on
pub use Rattle.desk_items.specs.Sound.{zeros}
unfoldable pub use Rattle.desk_items.specs.Sound.{sound_empty, counted, sound_filled, sound_item}

-- a test of every element and its place, counted from i
unfoldable pub every : {A : Type 0} → (ℕ → A → Bool) → ℕ → List A → Bool
every p i [] = true
every p i (x ∷ xs) = p i x && every p (suc i) xs

-- "each line is at most 80 (document 02, No. 6: 200) bytes, all 32 to 126", "unused bytes are zero"
unfoldable pub sound_line : Line → Bool
sound_line l = leb l.len line_most && (all is_typed (typed l) && zeros (drop l.len l.bytes))

unfoldable pub sound_lines : Desk → Bool
sound_lines d = every (λ (k : ℕ) (l : Line). sound_line l) 0 d.lines

-- the sheet of that number; its items go by its own count: "entry counts are per sheet"
unfoldable pub sound_sheet : ℕ → Sheet → Bool
sound_sheet sheet s = every (sound_item sheet s.count) 0 s.items

abbrev pub sound_sheets : Desk → Bool
sound_sheets d = every sound_sheet 0 d.sheets

-- "A desk is sound when .."
unfoldable pub sound_desk : Desk → Bool
sound_desk d = sound_lines d && sound_sheets d
