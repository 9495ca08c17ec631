-- The sheet that a bench fills, its count and its items, where they stand in lent memory.
-- Assumes nothing.
use mathlib.Core.Path.{◌≡◌, ap, ◌∙◌}
use mathlib.Core.List.{List}
use Prim.Native.Nat.{ℕ, ◌-◌, ◌<◌}
use native.Mathlib.Omega.{arith}
use lib.ListN.{get_or}
use Rattle.line_items.specs.Typed.{line_most}
use Rattle.line_items.specs.Items.{item_count}
use Rattle.desk_state.specs.Sheets.{item_at}
use Rattle.desk_state.specs.Desks.{bench_count, sheet_count, sheet_of_bench, sheet_at}
use Rattle.desk_state.specs.declared.sheet.Item.{Item}
use Rattle.desk_state.specs.declared.sheet.Sheet.{Sheet}
use Rattle.desk_memory.specs.Memory.{item_numbers, count_at, slot, item_from, item_in, texts_of, numbers_of, sheet_in, desk_of}
use Rattle.desk_memory.proofs.Desks.{sheet-at, item-at, count-of}
use Rattle.desk_entries.specs.Entry.{open_to, own_item}

-- a bench fills one of the sheets
pub sheet-in : (bench : ℕ) → bench < bench_count → sheet_of_bench bench < sheet_count
unfolding sheet_of_bench
sheet-in bench h = omega arith

module _ (t n : List ℕ) (bench : ℕ) (b : bench < bench_count) where
  abbrev s : ℕ
  s = sheet_of_bench bench

  pub own-sheet : sheet_at (desk_of t n) s ≡ sheet_in t n s
  own-sheet = sheet-at t n s (sheet-in bench b)

  pub own-count : (sheet_at (desk_of t n) s).count ≡ get_or (numbers_of n s) count_at 0
  own-count = ap (λ (x : Sheet). x.count) own-sheet ∙ count-of (texts_of t s) (numbers_of n s)

  module _ (item : ℕ) (h : item - 1 < item_count) where
    own-item : own_item (desk_of t n) bench item ≡ item_in (texts_of t s) (numbers_of n s) (item - 1)
    own-item = ap (λ (x : Sheet). item_at x item) own-sheet ∙ item-at (texts_of t s) (numbers_of n s) (item - 1) h

    pub own-times : (own_item (desk_of t n) bench item).times ≡ get_or (slot item_numbers (numbers_of n s) (item - 1)) 3 0
    own-times = ap (λ (x : Item). x.times) own-item

    -- whether the item is open to the bench, as it is asked of the numbers
    pub open_lent : open_to (own_item (desk_of t n) bench item) bench
        ≡ open_to (item_from (slot line_most (texts_of t s) (item - 1)) (slot item_numbers (numbers_of n s) (item - 1))) bench
    open_lent = ap (λ (x : Item). open_to x bench) own-item
