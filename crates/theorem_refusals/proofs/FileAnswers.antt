-- The file's writer answers by its table.
-- Assumes nothing.
use mathlib.Core.Path.{◌≡◌, refl, ap₂, ◌∙◌, subst⁻¹}
use mathlib.Core.Bool.{Bool, true, false, cond, ◌&&◌}
use mathlib.Core.Logic.{◌↔◌}
use mathlib.Core.List.{List}
use Prim.Native.Nat.{ℕ}
use native.Mathlib.Omega.{arith}
use borrow.Author.Tests.{leb-true, leb-false, ltb-true, lt-ltb}
use lib.Dec.{leb}
use lib.ListN.{length}
use Rattle.text.proofs.Bools.{fails, cond-ap, cond-between}
use Rattle.desk_state.specs.Desks.{sheet_count, is_sheet, sheet_at}
use Rattle.desk_memory.specs.Memory.{is_desk, desk_of}
use Rattle.desk_soundness.specs.Sound.{sound_desk}
use Rattle.desk_soundness.specs.Wording.{Sound}
use Rattle.desk_state.specs.declared.sheet.Sheet.{Sheet}
use Rattle.desk_state.specs.declared.desk.Desk.{Desk}
use Rattle.file_block_name.specs.Block.{is_block_name}
use Rattle.file_block_name.proofs.Wording.{block-is, block-taken}
use Rattle.file_cif.specs.File.{file_of}
use Rattle.file_cif.specs.Answers.{Filing, file_step, file_lent}
use Rattle.theorem_refusals.specs.Table.{Answers}
use Rattle.theorem_refusals.specs.Key.{SoundLent}
use Rattle.theorem_refusals.specs.File.{file_table}
use Rattle.theorem_refusals.proofs.Firsts.{First, this, next, answers}
use Rattle.theorem_refusals.proofs.Sounds.{desk-so, lent-so}

module _ (name out : List ℕ) where
  -- the number by tests where the desk is sound
  abbrev sound_number : Sheet → ℕ
  sound_number s = cond (is_block_name name) (cond (leb (length (file_of name s)) (length out)) 0 10) 11

  -- whatever says that the desk is sound
  module _ (Sound : Type 0) (sound : Bool) (is-sound : (sound ≡ true) ↔ Sound) (sheet : ℕ) (s : Sheet) where
    abbrev long : ℕ
    long = length (file_of name s)

    file-by : (x a b c : Bool) → is_sheet sheet ≡ x → sound ≡ a → is_block_name name ≡ b → leb long (length out) ≡ c
        → First (file_table Sound sheet s name out) (cond x (cond a (cond b (cond c 0 10) 11) 2) 12)
    file-by true true true true w e f g =
        next (λ n. n (ltb-true sheet sheet_count w))
        (next (λ n. n (is-sound.0 e)) (next (λ n. n (block-is name f)) (next (λ h. let m = leb-true long (length out) g in omega arith) refl)))
    file-by true true true false w e f g =
        next (λ n. n (ltb-true sheet sheet_count w)) (next (λ n. n (is-sound.0 e)) (next (λ n. n (block-is name f)) (this (leb-false long (length out) g) refl)))
    file-by true true false c w e f g =
        next (λ n. n (ltb-true sheet sheet_count w)) (next (λ n. n (is-sound.0 e)) (this (λ h. fails f (block-taken name h)) refl))
    file-by true false b c w e f g = next (λ n. n (ltb-true sheet sheet_count w)) (this (λ h. fails e (is-sound.1 h)) refl)
    file-by false a b c w e f g = this (λ h. fails w (lt-ltb sheet sheet_count h)) refl

    file-number : Answers (file_table Sound sheet s name out) (cond (is_sheet sheet) (cond sound (sound_number s) 2) 12)
    file-number =
        answers (file_table Sound sheet s name out) (cond (is_sheet sheet) (cond sound (sound_number s) 2) 12) refl
        (file-by (is_sheet sheet) sound (is_block_name name) (leb long (length out)) refl refl refl refl)

  file-is : (d : Desk) (sheet : ℕ) → (file_step d sheet name out).answer ≡ cond (is_sheet sheet) (cond (sound_desk d) (sound_number (sheet_at d sheet)) 2) 12
  unfolding file_step
  file-is d sheet = simp (cond-ap (λ (x : Filing). x.answer))

  -- "12, no such sheet, before 2"; "2 as for questions, then 11 bad block name, then 10 no room"
  pub file-table : (d : Desk) (sheet : ℕ) → Answers (file_table (Sound d) sheet (sheet_at d sheet) name out) (file_step d sheet name out).answer
  file-table d sheet =
      subst⁻¹ (Answers (file_table (Sound d) sheet (sheet_at d sheet) name out)) (file-is d sheet)
      (file-number (Sound d) (sound_desk d) (desk-so d) sheet (sheet_at d sheet))

  -- the same of the desk in lent memory
  module _ (t n : List ℕ) (sheet : ℕ) where
    abbrev d : Desk
    d = desk_of t n

    lent-file-is : (file_lent t n sheet name out).answer ≡ cond (is_sheet sheet) (cond (is_desk t n && sound_desk d) (sound_number (sheet_at d sheet)) 2) 12
    unfolding file_lent
    lent-file-is =
        cond-ap (λ (x : Filing). x.answer) (is_desk t n) _ _
        ∙ ap₂ (λ (a b : ℕ). cond (is_desk t n) a b) (file-is d sheet) (cond-ap (λ (x : Filing). x.answer) (is_sheet sheet) _ _)
        ∙ cond-between (is_desk t n) (sound_desk d) (is_sheet sheet) (sound_number (sheet_at d sheet)) 2 12

    pub lent-file-table : Answers (file_table (SoundLent t n) sheet (sheet_at d sheet) name out) (file_lent t n sheet name out).answer
    lent-file-table =
        subst⁻¹ (Answers (file_table (SoundLent t n) sheet (sheet_at d sheet) name out)) lent-file-is
        (file-number (SoundLent t n) (is_desk t n && sound_desk d) (lent-so t n) sheet (sheet_at d sheet))
