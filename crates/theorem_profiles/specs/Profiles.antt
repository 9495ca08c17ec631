-- Rows 13 to 25 and the profiles in the reports of a desk, in the requests' words (document 02, No. 11 and 12).
-- Assumes nothing.
use Rattle.std.specs.Prelude.{ℕ, ◌≤◌, ◌<◌, ◌≡◌, true, false, List, [], ◌∷◌, ◌⊎◌, take}
use Rattle.desk_state.specs.Desks.{sheet_at}
use Rattle.desk_state.specs.declared.desk.Desk.{Desk}
use Rattle.desk_state.specs.declared.sheet.Sheet.{Sheet}
use Rattle.desk_memory.specs.Memory.{desk_of}
use Rattle.rows.specs.Rows.{profile_count, powder, no_alert, missing}
use Rattle.rows.specs.declared.Row.{Row}
use Rattle.rows_counts.specs.Counts.{rule_of, keeps}
use Rattle.rows_counts.specs.Wording.{compared, Broken, reason_of, Judges}
use Rattle.rows_moiety.specs.Wording.{Row25}
use Rattle.desk_state.specs.Sheets.{value_at}
use Rattle.rows_sheet.specs.Sheet.{first_rows, row_at}
use Rattle.desk_questions.specs.Report.{Report, reported_of, report_lent}

-- "with no compared item missing"
abbrev pub NoneMissing : (ℕ → List ℕ) → List ℕ → Type 0
NoneMissing at [] = Unit {0}
NoneMissing at (i ∷ is) = (missing (at i) ≡ false) × NoneMissing at is

-- the reports of a sheet, by profile
module _ (s : Sheet) (report : ℕ → Report) where
  -- a row of a report
  abbrev pub reported_row : ℕ → ℕ → Row
  reported_row profile row = row_at (report profile).rows row

  pub record Profiled : Type 0 where
    -- "Shown once over rows 13 to 24: a row the profile keeps fires exactly when its rule, with no compared item missing, is broken."
    pub counted : (profile row : ℕ) → profile < profile_count → 13 ≤ row → row ≤ 24 → keeps profile row ≡ true
        → Judges (NoneMissing (value_at s) (compared (rule_of row))) (Broken (value_at s) (rule_of row)) (reason_of row) (reported_row profile row)
    -- "For powder rows 13 to 18, 20 and 21 are level 0, reason 0."
    pub left_out : (profile row : ℕ) → profile < profile_count → 13 ≤ row → row ≤ 24 → keeps profile row ≡ false → reported_row profile row ≡ no_alert
    -- rows 1 to 12 are those of document 01 in both profiles
    pub first : (profile : ℕ) → profile < profile_count → take 12 (report profile).rows.rows ≡ first_rows s
    -- document 02, No. 12: row 25 is what the request says of items 1 and 19, in both profiles
    pub last : (profile : ℕ) → profile < profile_count → Row25 (value_at s 1) (value_at s 19) (reported_row profile 25)
    -- "Powder gives no alert that the other profile lacks."
    pub no_more : (row : ℕ) → ((reported_row powder row).level ≡ 0) ⊎ ((reported_row powder row).level ≡ (reported_row 0 row).level)

-- of a desk
abbrev pub DeskProfiled : Desk → ℕ → Type 0
DeskProfiled d sheet = Profiled (sheet_at d sheet) (reported_of d sheet)

-- of a desk in lent memory, which is what `desk_report` tells
abbrev pub LentProfiled : List ℕ → List ℕ → ℕ → Type 0
LentProfiled t n sheet = Profiled (sheet_at (desk_of t n) sheet) (report_lent t n sheet)
