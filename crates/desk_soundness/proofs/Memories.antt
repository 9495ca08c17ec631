-- What the tests of a desk in lent memory say of its soundness.
-- Assumes nothing.
use mathlib.Core.Path.{◌≡◌, sym, ap, ◌∙◌}
use mathlib.Core.Bool.{Bool, true, false, cond}
use mathlib.Core.List.{List}
use Prim.Native.Nat.{ℕ, ◌<◌}
use native.Mathlib.Nat.{zero-add}
use native.Mathlib.Omega.{arith}
use Rattle.text.proofs.Bools.{and_both, cond-and, cond-between}
use Rattle.desk_state.specs.Desks.{sheet_count, no_sheet, sheet_at}
use Rattle.desk_memory.specs.Memory.{Sized, is_desk, sheet_from, texts_of, numbers_of, sheet_in, desk_of}
use Rattle.desk_memory.proofs.Desks.{desk-sized, sheets-long, sheet-at}
use Rattle.desk_soundness.specs.Sound.{sound_lines, sound_sheet, sound_sheets, sound_desk}
use Rattle.desk_soundness.specs.SoundMemory.{sound_memory}
use Rattle.desk_soundness.proofs.Everys.{every-each}

module _ (t n : List ℕ) where
  -- memory that is no desk and a desk that is not sound are answered alike
  pub by-soundness : {A : Type 0} (x y : A) → cond (is_desk t n) (cond (sound_desk (desk_of t n)) x y) y ≡ cond (sound_memory t n) x y
  unfolding sound_memory
  by-soundness x y = cond-and (is_desk t n) (sound_desk (desk_of t n)) x y

  -- the same where a test stands before both
  pub by-sheet : {A : Type 0} (first : Bool) (x y z : A)
      → cond (is_desk t n) (cond first (cond (sound_desk (desk_of t n)) x y) z) (cond first y z) ≡ cond first (cond (sound_memory t n) x y) z
  unfolding sound_memory
  by-sheet first x y z = cond-between (is_desk t n) (sound_desk (desk_of t n)) first x y z

  -- a sheet of the desk, of its block as it is lent
  pub sheet-lent : (s : ℕ) → s < sheet_count → {a b : List ℕ} → a ≡ texts_of t s → b ≡ numbers_of n s → sheet_from a b ≡ sheet_at (desk_of t n) s
  sheet-lent s h {a} {b} x y = ap (λ (l : List ℕ). sheet_from l b) x ∙ ap (sheet_from (texts_of t s)) y ∙ sym (sheet-at t n s h)

  -- each sheet of a sound desk is sound
  pub sound-sheet-at : sound_memory t n ≡ true → (s : ℕ) → s < sheet_count → sound_sheet s (sheet_in t n s) ≡ true
  unfolding sound_memory sound_desk
  sound-sheet-at e s h =
      let d = (and_both (is_desk t n) (sound_desk (desk_of t n)) e).1 in
      let all = (and_both (sound_lines (desk_of t n)) (sound_sheets (desk_of t n)) d).1 in
      let one = every-each sound_sheet (desk_of t n).sheets 0 s no_sheet all (omega (arith, sheets-long t n)) in
      sym (ap (sound_sheet s) (sheet-at t n s h)) ∙ sym (ap (λ (m : ℕ). sound_sheet m (sheet_at (desk_of t n) s)) (zero-add s)) ∙ one

  pub sound-sized : sound_memory t n ≡ true → Sized t n
  unfolding sound_memory
  sound-sized s = desk-sized t n (and_both (is_desk t n) (sound_desk (desk_of t n)) s).0

module _ (t n : List ℕ) (d : is_desk t n ≡ true) where
  pub sound-lines : sound_lines (desk_of t n) ≡ false → false ≡ sound_memory t n
  unfolding sound_memory sound_desk
  sound-lines e = simp (d, e)

  pub sound-sheets : sound_lines (desk_of t n) ≡ true → sound_memory t n ≡ sound_sheets (desk_of t n)
  unfolding sound_memory sound_desk
  sound-sheets e = simp (d, e)
