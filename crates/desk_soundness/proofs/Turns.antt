-- A turn of the loops over the lines and the sheets of a desk in memory and over the items of a sheet's block: the slot, as it is lent, and the rest.
-- Assumes nothing.
use mathlib.Core.Path.{◌≡◌, refl, sym, ap, ◌∙◌}
use mathlib.Core.Bool.{Bool, true, ◌&&◌}
use mathlib.Core.List.{List}
use Prim.Native.Nat.{ℕ, ◌+◌, ◌*◌, ◌-◌, ◌<◌, ◌≤◌}
use native.Mathlib.Omega.{arith}
use lib.ListN.{length, get_or, take, drop, length-take, length-drop}
use Rattle.line_items.specs.Typed.{line_most}
use Rattle.line_items.specs.Items.{item_count}
use Rattle.desk_state.specs.Desks.{bench_count, sheet_count, no_line, no_sheet}
use Rattle.desk_state.specs.Sheets.{no_item}
use Rattle.desk_state.specs.declared.line.Line.{Line}
use Rattle.desk_state.specs.declared.sheet.Item.{Item}
use Rattle.desk_state.specs.declared.sheet.Sheet.{Sheet}
use Rattle.desk_memory.specs.Memory.{item_numbers, count_at, slot, line_from, item_from, sheet_from, texts_of, numbers_of, desk_of}
use Rattle.desk_memory.proofs.Slots.{slot_lent}
use Rattle.desk_memory.proofs.Desks.{lines_long, sheets-long, items-long, line-at, sheet-at, item-at, count-of}
use Rattle.desk_items.specs.Sound.{sound_slot}
use Rattle.desk_items.proofs.Slots.{slot-sound}
use Rattle.desk_soundness.specs.Sound.{every, sound_line, sound_item, sound_lines, sound_sheet}
use Rattle.desk_soundness.proofs.Everys.{every-at, every-end}

-- the test of the lines from i on, of the items of a sheet, and of the sheets
abbrev pub lines_from : List ℕ → List ℕ → ℕ → Bool
lines_from t n i = every (λ (k : ℕ) (l : Line). sound_line l) i (drop i (desk_of t n).lines)

abbrev pub items_from : ℕ → List ℕ → List ℕ → ℕ → Bool
items_from sheet t n i = every (sound_item sheet (get_or n count_at 0)) i (drop i (sheet_from t n).items)

abbrev pub sheets_from : List ℕ → List ℕ → ℕ → Bool
sheets_from t n i = every sound_sheet i (drop i (desk_of t n).sheets)

module _ (t n : List ℕ) where
  pub lines-all : sound_lines (desk_of t n) ≡ lines_from t n 0
  unfolding sound_lines
  lines-all = refl

  pub items-all : (sheet : ℕ) → sound_sheet sheet (sheet_from t n) ≡ items_from sheet t n 0
  unfolding sound_sheet
  items-all sheet = ap (λ (c : ℕ). every (sound_item sheet c) 0 (sheet_from t n).items) (count-of t n)

  module _ (i : ℕ) where
    pub lines_end : bench_count ≤ i → lines_from t n i ≡ true
    lines_end h = every-end (λ (k : ℕ) (l : Line). sound_line l) (desk_of t n).lines i (omega (arith, lines_long t n))

    pub items-end : (sheet : ℕ) → item_count ≤ i → items_from sheet t n i ≡ true
    items-end sheet h = every-end (sound_item sheet (get_or n count_at 0)) (sheet_from t n).items i (omega (arith, items-long t n))

    pub sheets-end : sheet_count ≤ i → sheets_from t n i ≡ true
    sheets-end h = every-end sound_sheet (desk_of t n).sheets i (omega (arith, sheets-long t n))

    -- the sheet's blocks as they are lent
    pub sheet-turn : (b : Bool) (x y : List ℕ) → i < sheet_count → x ≡ texts_of t i → y ≡ numbers_of n i → b ≡ sound_sheet i (sheet_from x y)
        → sheets_from t n i ≡ (b && sheets_from t n (i + 1))
    sheet-turn b x y h p q s =
        every-at sound_sheet (desk_of t n).sheets i no_sheet (omega (arith, sheets-long t n))
        ∙ ap (λ (z : Sheet). sound_sheet i z && sheets_from t n (i + 1))
        (sheet-at t n i h ∙ ap (sheet_from (texts_of t i)) (sym q) ∙ ap (λ (z : List ℕ). sheet_from z y) (sym p))
        ∙ ap (λ (z : Bool). z && sheets_from t n (i + 1)) (sym s)

    module _ (a e : ℕ) where
      pub line-turn : (b : Bool) → i < bench_count → a ≡ i * line_most → e ≡ a + line_most
          → b ≡ sound_line (line_from (take (e - a) (drop a t)) (get_or n i 0)) → lines_from t n i ≡ (b && lines_from t n (i + 1))
      line-turn b h p q s =
          every-at (λ (k : ℕ) (l : Line). sound_line l) (desk_of t n).lines i no_line (omega (arith, lines_long t n))
          ∙ ap (λ (l : Line). sound_line l && lines_from t n (i + 1))
          (line-at t n i h ∙ ap (λ (x : List ℕ). line_from x (get_or n i 0)) (sym (slot_lent line_most t i a e p q)))
          ∙ ap (λ (x : Bool). x && lines_from t n (i + 1)) (sym s)

      -- the item's slot and its numbers as they are lent
      pub item-turn : (sheet f o : ℕ) (b : Bool) → i < item_count → a ≡ i * line_most → e ≡ a + line_most → f ≡ i * item_numbers → o ≡ f + item_numbers → e ≤ length t → o ≤ length n
          → b ≡ sound_slot sheet (get_or n count_at 0) i (take (e - a) (drop a t)) (take (o - f) (drop f n)) → items_from sheet t n i ≡ (b && items_from sheet t n (i + 1))
      item-turn sheet f o b h p q u v j m s =
          let x = slot_lent line_most t i a e p q in
          let y = slot_lent item_numbers n i f o u v in
          let c = get_or n count_at 0 in
          every-at (sound_item sheet c) (sheet_from t n).items i no_item (omega (arith, items-long t n))
          ∙ ap (λ (z : Item). sound_item sheet c i z && items_from sheet t n (i + 1))
          (item-at t n i h ∙ ap (item_from (slot line_most t i)) (sym y) ∙ ap (λ (z : List ℕ). item_from z (take (o - f) (drop f n))) (sym x))
          ∙ ap (λ (z : Bool). z && items_from sheet t n (i + 1))
          (sym (slot-sound sheet c i (take (e - a) (drop a t)) (take (o - f) (drop f n)) h (simp (length-take, length-drop) (omega arith)) (simp (length-take, length-drop) (omega arith))) ∙ sym s)
