-- Report and Who answer by their tables.
-- Assumes nothing.
use mathlib.Core.Path.{◌≡◌, refl, ap, ap₂, ◌∙◌, subst⁻¹}
use mathlib.Core.Bool.{Bool, true, false, cond, ◌&&◌}
use mathlib.Core.Logic.{◌↔◌}
use mathlib.Core.List.{List}
use Prim.Native.Nat.{ℕ}
use borrow.Author.Tests.{leb-true, le-leb, ltb-true, lt-ltb}
use lib.Dec.{leb, eqb}
use Rattle.text.proofs.Bools.{and_both, fails, cond-ap, cond_same, cond-between}
use Rattle.line_items.specs.Items.{item_count, is_item}
use Rattle.desk_state.specs.Desks.{sheet_count, is_sheet}
use Rattle.rows.specs.Rows.{profile_count, is_profile}
use Rattle.desk_memory.specs.Memory.{is_desk, desk_of}
use Rattle.desk_soundness.specs.Sound.{sound_desk}
use Rattle.desk_soundness.specs.Wording.{Sound}
use Rattle.desk_state.specs.declared.desk.Desk.{Desk}
use Rattle.desk_state.specs.declared.sheet.Item.{Item}
use Rattle.desk_questions.specs.Report.{Report, reported_of, report_lent}
use Rattle.desk_questions.specs.Who.{Who, told_of, who_of, who_lent}
use Rattle.theorem_refusals.specs.Table.{Answers}
use Rattle.theorem_refusals.specs.Key.{SoundLent}
use Rattle.theorem_refusals.specs.Questions.{report_table, who_table}
use Rattle.theorem_refusals.proofs.Firsts.{First, this, next, answers}
use Rattle.theorem_refusals.proofs.Sounds.{desk-so, lent-so}

-- the numbers by tests, whatever says that the desk is sound
module _ (Sound : Type 0) (sound : Bool) (is-sound : (sound ≡ true) ↔ Sound) (sheet : ℕ) where
  module _ (profile : ℕ) where
    report-by : (a b c : Bool) → is_sheet sheet ≡ a → is_profile profile ≡ b → sound ≡ c → First (report_table Sound sheet profile) (cond a (cond b (cond c 0 2) 21) 12)
    report-by true true true s p e = next (λ n. n (ltb-true sheet sheet_count s)) (next (λ n. n (ltb-true profile profile_count p)) (next (λ n. n (is-sound.0 e)) refl))
    report-by true true false s p e =
        next (λ n. n (ltb-true sheet sheet_count s)) (next (λ n. n (ltb-true profile profile_count p)) (this (λ h. fails e (is-sound.1 h)) refl))
    report-by true false c s p e = next (λ n. n (ltb-true sheet sheet_count s)) (this (λ h. fails p (lt-ltb profile profile_count h)) refl)
    report-by false b c s p e = this (λ h. fails s (lt-ltb sheet sheet_count h)) refl

    report-number : Answers (report_table Sound sheet profile) (cond (is_sheet sheet) (cond (is_profile profile) (cond sound 0 2) 21) 12)
    report-number =
        answers (report_table Sound sheet profile) (cond (is_sheet sheet) (cond (is_profile profile) (cond sound 0 2) 21) 12) refl
        (report-by (is_sheet sheet) (is_profile profile) sound refl refl refl)

  module _ (item : ℕ) where
    who-by : (a b c : Bool) → is_sheet sheet ≡ a → sound ≡ b → is_item item ≡ c → First (who_table Sound sheet item) (cond a (cond b (cond c 0 6) 2) 12)
    who-by true true true s e f =
        let h = and_both (leb 1 item) (leb item item_count) f in
        next (λ n. n (ltb-true sheet sheet_count s)) (next (λ n. n (is-sound.0 e)) (next (λ n. n (leb-true 1 item h.0, leb-true item item_count h.1)) refl))
    who-by true true false s e f =
        next (λ n. n (ltb-true sheet sheet_count s)) (next (λ n. n (is-sound.0 e))
        (this (λ h. fails f (simp (le-leb 1 item h.0, le-leb item item_count h.1))) refl))
    who-by true false c s e f = next (λ n. n (ltb-true sheet sheet_count s)) (this (λ h. fails e (is-sound.1 h)) refl)
    who-by false b c s e f = this (λ h. fails s (lt-ltb sheet sheet_count h)) refl

    who-number : Answers (who_table Sound sheet item) (cond (is_sheet sheet) (cond sound (cond (is_item item) 0 6) 2) 12)
    who-number =
        answers (who_table Sound sheet item) (cond (is_sheet sheet) (cond sound (cond (is_item item) 0 6) 2) 12) refl
        (who-by (is_sheet sheet) sound (is_item item) refl refl refl)

-- ---- Report

report-is : (d : Desk) (sheet profile : ℕ) → (reported_of d sheet profile).answer ≡ cond (is_sheet sheet) (cond (is_profile profile) (cond (sound_desk d) 0 2) 21) 12
unfolding reported_of
report-is d sheet profile = simp (cond-ap (λ (r : Report). r.answer))

-- "12, no such sheet, before 2"; "21, no such profile, after 12 and before 2"; "on an unsound desk it gives 2"
pub report-table : (d : Desk) (sheet profile : ℕ) → Answers (report_table (Sound d) sheet profile) (reported_of d sheet profile).answer
report-table d sheet profile =
    subst⁻¹ (Answers (report_table (Sound d) sheet profile)) (report-is d sheet profile) (report-number (Sound d) (sound_desk d) (desk-so d) sheet profile)

-- ---- Who

-- what is told of an item is no refusal
told-accepted : (i : Item) → (told_of i).answer ≡ 0
unfolding told_of
told-accepted i = cond-ap (λ (w : Who). w.answer) (eqb i.len 0) _ _ ∙ cond_same (eqb i.len 0) 0

who-is : (d : Desk) (sheet item : ℕ) → (who_of d sheet item).answer ≡ cond (is_sheet sheet) (cond (sound_desk d) (cond (is_item item) 0 6) 2) 12
unfolding who_of
who-is d sheet item = simp (cond-ap (λ (w : Who). w.answer), told-accepted)

-- "12, no such sheet, before 2"; "2 if unsound, else 6 if not 1 to 10"
pub who-table : (d : Desk) (sheet item : ℕ) → Answers (who_table (Sound d) sheet item) (who_of d sheet item).answer
who-table d sheet item = subst⁻¹ (Answers (who_table (Sound d) sheet item)) (who-is d sheet item) (who-number (Sound d) (sound_desk d) (desk-so d) sheet item)

-- ---- the same of the desk in lent memory

module _ (t n : List ℕ) (sheet : ℕ) where
  abbrev d : Desk
  d = desk_of t n

  abbrev sound : Bool
  sound = is_desk t n && sound_desk d

  module _ (profile : ℕ) where
    lent-report-is : (report_lent t n sheet profile).answer ≡ cond (is_sheet sheet) (cond (is_profile profile) (cond sound 0 2) 21) 12
    unfolding report_lent
    lent-report-is =
        cond-ap (λ (r : Report). r.answer) (is_desk t n) _ _
        ∙ ap₂ (λ (a b : ℕ). cond (is_desk t n) a b) (report-is d sheet profile)
        (cond-ap (λ (r : Report). r.answer) (is_sheet sheet) _ _ ∙ ap (λ (a : ℕ). cond (is_sheet sheet) a 12) (cond-ap (λ (r : Report). r.answer) (is_profile profile) _ _))
        ∙ go (is_sheet sheet)
      where
        go : (s : Bool)
            → ◌≡◌ {A = ℕ} (cond (is_desk t n) (cond s (cond (is_profile profile) (cond (sound_desk d) 0 2) 21) 12) (cond s (cond (is_profile profile) 2 21) 12))
            (cond s (cond (is_profile profile) (cond sound 0 2) 21) 12)
        go true = cond-between (is_desk t n) (sound_desk d) (is_profile profile) 0 2 21
        go false = cond-between (is_desk t n) (sound_desk d) false 0 2 12

    pub lent-report-table : Answers (report_table (SoundLent t n) sheet profile) (report_lent t n sheet profile).answer
    lent-report-table =
        subst⁻¹ (Answers (report_table (SoundLent t n) sheet profile)) lent-report-is (report-number (SoundLent t n) sound (lent-so t n) sheet profile)

  module _ (item : ℕ) where
    lent-who-is : (who_lent t n sheet item).answer ≡ cond (is_sheet sheet) (cond sound (cond (is_item item) 0 6) 2) 12
    unfolding who_lent
    lent-who-is =
        cond-ap (λ (w : Who). w.answer) (is_desk t n) _ _
        ∙ ap₂ (λ (a b : ℕ). cond (is_desk t n) a b) (who-is d sheet item) (cond-ap (λ (w : Who). w.answer) (is_sheet sheet) _ _)
        ∙ cond-between (is_desk t n) (sound_desk d) (is_sheet sheet) (cond (is_item item) 0 6) 2 12

    pub lent-who-table : Answers (who_table (SoundLent t n) sheet item) (who_lent t n sheet item).answer
    lent-who-table = subst⁻¹ (Answers (who_table (SoundLent t n) sheet item)) lent-who-is (who-number (SoundLent t n) sound (lent-so t n) sheet item)
