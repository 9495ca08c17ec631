-- Laws of the desk that memory holds: its lines, its sheets and their items, and what becomes of it when the memory changes.
-- Assumes nothing.
use mathlib.Core.Path.{◌≡◌, refl, ◌∙◌}
use mathlib.Core.Bool.{true}
use mathlib.Core.List.{List}
use Prim.Native.Nat.{ℕ, ◌+◌, ◌*◌, ◌<◌}
use native.Mathlib.Omega.{arith}
use borrow.Author.Tests.{eq-eqb, eqb-true}
use lib.Dec.{eqb}
use lib.ListN.{length, get_or, drop, set, replicate, length-drop}
use Rattle.text.proofs.Bools.{and_both}
use Rattle.line_items.specs.Typed.{line_most}
use Rattle.line_items.specs.Items.{item_count}
use Rattle.desk_state.specs.Sheets.{no_item}
use Rattle.desk_state.specs.Desks.{bench_count, sheet_count, no_line, line_at, with_line, no_sheet, sheet_at, with_sheet, fresh_desk}
use Rattle.desk_memory.specs.Memory.{item_numbers, count_at, sheet_numbers, sheet_texts, sheets_at, texts_length, numbers_length, Sized, is_desk, slot, each, line_in, item_in, sheet_from, texts_of, numbers_of, sheet_in, desk_of, used_of}
use Rattle.desk_memory.proofs.Slots.{slot-after, slot-within, slot-long}
use Rattle.desk_memory.proofs.Eachs.{each-length, each_at, each_same, each_set}

-- memory of zeros is a fresh desk
pub zeros-fresh : (is_desk (replicate texts_length 0) (replicate numbers_length 0) ≡ true) × (desk_of (replicate texts_length 0) (replicate numbers_length 0) ≡ fresh_desk)
    × (used_of (replicate numbers_length 0) ≡ 0)
unfolding is_desk desk_of sheet_from slot each
zeros-fresh = (refl, refl, refl)

module _ (t n : List ℕ) where
  -- memory of a desk's lengths
  pub desk-sized : is_desk t n ≡ true → Sized t n
  unfolding is_desk
  desk-sized e =
      let b = and_both (eqb (length t) texts_length) (eqb (length n) numbers_length) e in
      record { texts = eqb-true (length t) texts_length b.0; numbers = eqb-true (length n) numbers_length b.1 }

  pub sized-desk : Sized t n → is_desk t n ≡ true
  unfolding is_desk
  sized-desk z = simp (eq-eqb (length t) texts_length z.texts, eq-eqb (length n) numbers_length z.numbers)

  pub lines_long : length (desk_of t n).lines ≡ bench_count
  unfolding desk_of
  lines_long = each-length (line_in t n) 0 bench_count

  pub line-at : (k : ℕ) → k < bench_count → line_at (desk_of t n) k ≡ line_in t n k
  unfolding desk_of
  line-at k h = each_at (line_in t n) no_line bench_count k h

  pub sheets-long : length (desk_of t n).sheets ≡ sheet_count
  unfolding desk_of
  sheets-long = each-length (sheet_in t n) 0 sheet_count

  pub sheet-at : (s : ℕ) → s < sheet_count → sheet_at (desk_of t n) s ≡ sheet_in t n s
  unfolding desk_of
  sheet-at s h = each_at (sheet_in t n) no_sheet sheet_count s h

  -- of a sheet's block
  pub items-long : length (sheet_from t n).items ≡ item_count
  unfolding sheet_from
  items-long = each-length (item_in t n) 0 item_count

  pub item-at : (k : ℕ) → k < item_count → get_or (sheet_from t n).items k no_item ≡ item_in t n k
  unfolding sheet_from
  item-at k h = each_at (item_in t n) no_item item_count k h

  pub count-of : (sheet_from t n).count ≡ get_or n count_at 0
  unfolding sheet_from
  count-of = refl

-- the blocks of a desk's sheets have their lengths
module _ (t n : List ℕ) (z : Sized t n) (s : ℕ) (h : s < sheet_count) where
  pub texts-long : length (texts_of t s) ≡ sheet_texts
  texts-long = slot-long sheet_texts (drop sheets_at t) s (simp length-drop (omega (arith, z.texts)))

  pub numbers-long : length (numbers_of n s) ≡ sheet_numbers
  numbers-long = slot-long sheet_numbers (drop bench_count n) s (simp length-drop (omega (arith, z.numbers)))

-- memory of the same lengths is a desk's too, or neither
pub still-desk : (t n t' n' : List ℕ) → length t' ≡ length t → length n' ≡ length n → is_desk t' n' ≡ is_desk t n
unfolding is_desk
still-desk t n t' n' l m = simp (l, m)

-- an item's slot, among all
pub item-slot : (t : List ℕ) (s k : ℕ) → k < item_count → slot line_most (texts_of t s) k ≡ slot line_most t (bench_count + (s * item_count + k))
item-slot t s k h = slot-within line_most (drop sheets_at t) k item_count s h ∙ slot-after line_most t (s * item_count + k) bench_count

module _ (t n t' n' : List ℕ) where
  -- memory that differs in one line
  pub desk-line : (k : ℕ) → ((j : ℕ) → j < bench_count → (j ≡ k → ⊥) → slot line_most t' j ≡ slot line_most t j)
      → ((j : ℕ) → j < bench_count → (j ≡ k → ⊥) → get_or n' j 0 ≡ get_or n j 0) → drop sheets_at t' ≡ drop sheets_at t → drop bench_count n' ≡ drop bench_count n
      → desk_of t' n' ≡ with_line (desk_of t n) k (line_in t' n' k)
  unfolding desk_of
  desk-line k s m p q =
      let ls = each_set (line_in t n) (line_in t' n') bench_count k (λ j l e. let x = s j l e in let y = m j l e in cc) in
      let ss = each_same (sheet_in t n) (sheet_in t' n') sheet_count (λ j l. cc) in
      cc

  -- memory that differs in no line
  module _ (s : (j : ℕ) → j < bench_count → slot line_most t' j ≡ slot line_most t j) (m : (j : ℕ) → j < bench_count → get_or n' j 0 ≡ get_or n j 0) where
    lines_same : each (line_in t' n') 0 bench_count ≡ each (line_in t n) 0 bench_count
    lines_same = each_same (line_in t n) (line_in t' n') bench_count (λ j l. let x = s j l in let y = m j l in cc)

    -- and in no sheet
    pub desk-same : ((j : ℕ) → j < sheet_count → sheet_in t' n' j ≡ sheet_in t n j) → desk_of t' n' ≡ desk_of t n
    unfolding desk_of
    desk-same f =
        let ls = lines_same in
        let ss = each_same (sheet_in t n) (sheet_in t' n') sheet_count f in
        cc

    -- and in one sheet
    pub desk-sheet : (k : ℕ) → ((j : ℕ) → j < sheet_count → (j ≡ k → ⊥) → sheet_in t' n' j ≡ sheet_in t n j)
        → desk_of t' n' ≡ with_sheet (desk_of t n) k (sheet_in t' n' k)
    unfolding desk_of
    desk-sheet k f =
        let ls = lines_same in
        let ss = each_set (sheet_in t n) (sheet_in t' n') sheet_count k f in
        cc

  -- a sheet's block with the same items and the same count
  pub sheet-same : ((j : ℕ) → j < item_count → slot line_most t' j ≡ slot line_most t j) → n' ≡ n → sheet_from t' n' ≡ sheet_from t n
  unfolding sheet_from
  sheet-same s m =
      let is = each_same (item_in t n) (item_in t' n') item_count (λ j l. let x = s j l in cc) in
      cc

  -- a sheet's block that differs in one item and in the count
  pub sheet-item : (k : ℕ) → ((j : ℕ) → j < item_count → (j ≡ k → ⊥) → slot line_most t' j ≡ slot line_most t j)
      → ((j : ℕ) → j < item_count → (j ≡ k → ⊥) → slot item_numbers n' j ≡ slot item_numbers n j)
      → sheet_from t' n' ≡ record { items = set (sheet_from t n).items k (item_in t' n' k); count = get_or n' count_at 0 }
  unfolding sheet_from
  sheet-item k s m =
      let is = each_set (item_in t n) (item_in t' n') item_count k (λ j l e. let x = s j l e in let y = m j l e in cc) in
      cc
