-- `desk_questions::report::report` meets its contract: no such sheet, no such profile, sound or not; the rows are those of the sheet's block.
-- Assumes nothing.
use native.Mathlib.Omega.{arith}
use mathlib.Core.Path.{◌≡◌, sym, ◌∙◌, ap}
use mathlib.Core.Bool.{true}
use Prim.Native.Nat.{◌<◌}
use borrow.Author.Tests.{lt-ltb, le-ltb}
use Rattle.desk_state.specs.Desks.{sheet_count, is_sheet}
use Rattle.desk_soundness.proofs.Memories.{sheet-lent}
use Rattle.rows.specs.Rows.{profile_count, is_profile}
use Rattle.rows_sheet.specs.Sheet.{rows_of}
use Rattle.desk_questions.specs.Report.{reported_as}
use Rattle.desk_questions.proofs.Asked.{report-by}
use Rattle.desk_questions.proofs.report.report.Goals as goal
use Rattle.desk_questions.proofs.report.report.Goals.{Else-profile-ge-PROFILE_COUNT, Else-sheet}

-- there is such a sheet
here : (c : Else-sheet) → c.args.sheet < sheet_count
here c = omega (arith, c.if-sheet.false)

is-sheet : (c : Else-sheet) → is_sheet c.args.sheet ≡ true
is-sheet c = lt-ltb _ sheet_count (here c)

-- and such a profile
is-profile : (c : Else-profile-ge-PROFILE_COUNT) → is_profile c.args.profile ≡ true
is-profile c = lt-ltb _ profile_count c.if-profile-ge-PROFILE_COUNT.false

pub returns-then-sheet : goal.returns-then-sheet
returns-then-sheet c =
    let a = c.args in
    sym (report-by a.texts.now a.numbers.now a.sheet a.profile ∙ simp (le-ltb a.sheet sheet_count c.if-sheet.true))

pub returns-then-profile-ge-PROFILE_COUNT : goal.returns-then-profile-ge-PROFILE_COUNT
returns-then-profile-ge-PROFILE_COUNT c =
    let a = c.args in
    sym (report-by a.texts.now a.numbers.now a.sheet a.profile ∙ simp ((is-sheet (goal.at.returns-then-profile-ge-PROFILE_COUNT c).Else-sheet), le-ltb a.profile profile_count c.if-profile-ge-PROFILE_COUNT.true))

pub returns-then-not-is_sound : goal.returns-then-not-is_sound
returns-then-not-is_sound c =
    let a = c.args in
    sym (report-by a.texts.now a.numbers.now a.sheet a.profile ∙ simp ((is-sheet (goal.at.returns-then-not-is_sound c).Else-sheet), (is-profile (goal.at.returns-then-not-is_sound c).Else-profile-ge-PROFILE_COUNT), sym c.is_sound.ensures ∙ c.if-not-is_sound.true))

pub returns : goal.returns
returns c =
    let a = c.args in
    let t = a.texts.now in
    let n = a.numbers.now in
    let rows = c.sheet_rows.ensures ∙ ap (rows_of a.profile) (sheet-lent t n a.sheet (here (goal.at.returns c).Else-sheet) c.sheet_texts.ensures c.sheet_numbers.ensures) in
    ap (reported_as 0) rows
    ∙ sym (report-by t n a.sheet a.profile ∙ simp ((is-sheet (goal.at.returns c).Else-sheet), (is-profile (goal.at.returns c).Else-profile-ge-PROFILE_COUNT), sym c.is_sound.ensures ∙ c.if-not-is_sound.false))
