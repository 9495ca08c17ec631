-- The test of soundness says what the documents' words say.
-- Assumes nothing.
use mathlib.Core.Path.{◌≡◌, refl, subst}
use mathlib.Core.Bool.{Bool, true}
use mathlib.Core.List.{List, [], ◌∷◌}
use Prim.Native.Nat.{ℕ, suc, ◌+◌, ◌-◌, ◌≤◌, ◌<◌}
use native.Mathlib.Nat.{add-zero}
use native.Mathlib.Omega.{arith}
use borrow.Author.Tests.{leb-true, le-leb}
use lib.Dec.{leb}
use lib.ListN.{length, get_or, drop}
use Rattle.text.specs.Run.{all}
use Rattle.text.proofs.Bools.{and_both}
use Rattle.text.proofs.Runs.{all_same}
use Rattle.line_items.specs.Typed.{line_most, is_typed}
use Rattle.desk_state.specs.Lines.{typed}
use Rattle.desk_state.specs.Sheets.{no_item, item_at}
use Rattle.desk_state.specs.Desks.{no_line, line_at, no_sheet, sheet_at}
use Rattle.desk_state.specs.declared.line.Line.{Line}
use Rattle.desk_state.specs.declared.desk.Desk.{Desk}
use Rattle.desk_soundness.specs.Sound.{every, sound_line, sound_item, sound_lines, sound_sheet, sound_sheets, sound_desk}
use Rattle.desk_soundness.specs.Wording.{SoundLine, SoundItem, Sound}
use Rattle.desk_items.proofs.Wording.{zeros-taken, item-is, item-taken}
use Rattle.desk_soundness.proofs.Everys.{every-each}

-- ---- a line

line-is : (l : Line) → sound_line l ≡ true → SoundLine l
unfolding sound_line
line-is l e =
    let most = and_both (leb l.len line_most) _ e in
    let bytes = and_both (all is_typed (typed l)) _ most.1 in
    record { most = leb-true l.len line_most most.0; bytes = bytes.0; unused = all_same 0 (drop l.len l.bytes) bytes.1 }

line_taken : (l : Line) → SoundLine l → sound_line l ≡ true
unfolding sound_line
line_taken l h = simp (le-leb l.len line_most h.most, h.bytes, zeros-taken (drop l.len l.bytes) h.unused)

-- ---- a desk

-- what is so of each element, at its place, is so of every one
every-from : {A : Type 0} (p : ℕ → A → Bool) (s : List A) (n : ℕ) (d : A) → ((i : ℕ) → i < length s → p (n + i) (get_or s i d) ≡ true) → every p n s ≡ true
unfolding every
every-from p [] n d h = refl
every-from p (x ∷ xs) n d h =
    let here : p n x ≡ true = rw (add-zero n) at (h 0 (omega arith)) in
    let rest : every p (suc n) xs ≡ true = every-from p xs (suc n) d (λ i l. let e : n + suc i ≡ suc n + i = omega arith in rw e at (h (suc i) (omega arith))) in
    simp (here, rest)

module _ (d : Desk) where
  lines_are : sound_lines d ≡ true → (bench : ℕ) → bench < length d.lines → SoundLine (line_at d bench)
  unfolding sound_lines
  lines_are e bench l = line-is (line_at d bench) (every-each (λ (k : ℕ) (l : Line). sound_line l) d.lines 0 bench no_line e l)

  items-are : sound_sheets d ≡ true → (s : ℕ) → s < length d.sheets → (k : ℕ) → 1 ≤ k → k ≤ length (sheet_at d s).items
      → SoundItem s (sheet_at d s).count k (item_at (sheet_at d s) k)
  unfolding sound_sheet
  items-are e s h k one l =
      let c = (sheet_at d s).count in
      let i = item_at (sheet_at d s) k in
      let none : 0 + s ≡ s = omega arith in
      let first : 0 + (k - 1) ≡ k - 1 = omega arith in
      let own : every (sound_item s c) 0 (sheet_at d s).items ≡ true = rw none at (every-each sound_sheet d.sheets 0 s no_sheet e h) in
      let x = item-is s c (k - 1) i (rw first at (every-each (sound_item s c) (sheet_at d s).items 0 (k - 1) no_item own (omega arith))) in
      let same : k - 1 + 1 ≡ k = omega arith in
      subst (λ (n : ℕ). SoundItem s c n i) same x

  -- a desk that the test takes is sound
  pub sound-is : sound_desk d ≡ true → Sound d
  unfolding sound_desk
  sound-is e = let h = and_both (sound_lines d) _ e in record { lines = lines_are h.0; items = items-are h.1 }

  item-at : Sound d → (s : ℕ) → s < length d.sheets → (i : ℕ) → i < length (sheet_at d s).items
      → sound_item s (sheet_at d s).count (0 + i) (get_or (sheet_at d s).items i no_item) ≡ true
  item-at h s g i l =
      let c = (sheet_at d s).count in
      let first : 0 + i ≡ i = omega arith in
      let same : i + 1 - 1 ≡ i = omega arith in
      rw first
      (item-taken s c i (get_or (sheet_at d s).items i no_item)
      (subst (λ (n : ℕ). SoundItem s c (i + 1) (get_or (sheet_at d s).items n no_item)) same (h.items s g (i + 1) (omega arith) (omega arith))))

  sheet-at : Sound d → (s : ℕ) → s < length d.sheets → sound_sheet (0 + s) (sheet_at d s) ≡ true
  unfolding sound_sheet
  sheet-at h s g =
      let none : 0 + s ≡ s = omega arith in
      rw none (every-from (sound_item s (sheet_at d s).count) (sheet_at d s).items 0 no_item (item-at h s g))

  -- the test takes every sound desk
  pub sound-taken : Sound d → sound_desk d ≡ true
  unfolding sound_desk sound_lines
  sound-taken h =
      let lines = every-from (λ (k : ℕ) (l : Line). sound_line l) d.lines 0 no_line (λ i l. line_taken (line_at d i) (h.lines i l)) in
      simp (lines, every-from sound_sheet d.sheets 0 no_sheet (sheet-at h))
