-- When a desk goes with its log (document 01, "What the desk holds"; document 02, No. 9).
-- Assumes nothing.
use Rattle.std.specs.Prelude.{ℕ, ◌+◌, ◌*◌, Bool, ◌&&◌, List, [], ◌∷◌, leb}
use Rattle.desk_state.specs.declared.sheet.Sheet.{Sheet}
use Rattle.desk_state.specs.declared.desk.Desk.{Desk}

-- "A log: .. at most 65,536"
abbrev pub log_most : ℕ
log_most = 65536

-- "the sum of both counts"
unfoldable pub counts_of : List Sheet → ℕ
counts_of [] = 0
counts_of (s ∷ ss) = s.count + counts_of ss

abbrev pub entry_count : Desk → ℕ
entry_count d = counts_of d.sheets

-- "For key calls also: the log is at most 65,536 bytes long, used is not more than its length, and six times the count is not more than used"; document 02, No. 9:
-- "Soundness compares six times the sum of both counts with used"
unfoldable pub sound_log : Desk → ℕ → ℕ → Bool
sound_log d len used = leb len log_most && (leb used len && leb (6 * entry_count d) used)
