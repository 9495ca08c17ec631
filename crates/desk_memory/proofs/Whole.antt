-- The desk and the used number are all that memory of a desk's lengths holds: where they are the same, so is every byte and every number.
-- Assumes nothing.
use mathlib.Core.Path.{◌≡◌, refl, sym, ap, ◌∙◌}
use mathlib.Core.Bool.{Bool, true, false}
use mathlib.Core.List.{List}
use Prim.Native.Nat.{ℕ, zero, suc, ◌+◌, ◌*◌, ◌-◌, ◌/◌, ◌%◌, ◌≤◌, ◌<◌}
use native.Mathlib.Nat.{mod-lt}
use native.Mathlib.Omega.{arith}
use borrow.Author.Tests.{ltb-true, ltb-false}
use lib.Dec.{ltb}
use lib.ListN.{get_or, drop}
use lib.Seq.{get_or-drop, ext_get_or}
use Rattle.line_items.specs.Typed.{line_most}
use Rattle.line_items.specs.Items.{item_count}
use Rattle.desk_state.specs.Sheets.{no_item}
use Rattle.desk_state.specs.Desks.{bench_count, sheet_count, line_at, sheet_at}
use Rattle.desk_state.specs.declared.line.Line.{Line}
use Rattle.desk_state.specs.declared.sheet.Item.{Item}
use Rattle.desk_state.specs.declared.sheet.Sheet.{Sheet}
use Rattle.desk_state.specs.declared.desk.Desk.{Desk}
use Rattle.desk_memory.specs.Memory.{item_numbers, count_at, sheet_numbers, used_at, numbers_length, Sized, slot, item_from, line_in, item_in, sheet_from, texts_of, numbers_of, sheet_in, desk_of, used_of}
use Rattle.desk_memory.proofs.Slots.{slot_of}
use Rattle.desk_memory.proofs.Desks.{line-at, sheet-at, item-at, count-of, item-slot}

-- the numbers of an item are in it
item-number : (v m v' m' : List ℕ) → item_from v m ≡ item_from v' m' → (i : ℕ) → i < item_numbers → get_or m i 0 ≡ get_or m' i 0
item-number v m v' m' e zero h = ap (λ (x : Item). x.len) e
item-number v m v' m' e (suc zero) h = ap (λ (x : Item). x.entry) e
item-number v m v' m' e (suc (suc zero)) h = ap (λ (x : Item). x.bench) e
item-number v m v' m' e (suc (suc (suc zero))) h = ap (λ (x : Item). x.times) e
item-number v m v' m' e (suc (suc (suc (suc i)))) h = absurd (omega arith)

-- of a sheet's blocks that hold the same sheet
module _ (t n t' n' : List ℕ) (e : sheet_from t n ≡ sheet_from t' n') where
  same_item : (k : ℕ) → k < item_count → item_in t n k ≡ item_in t' n' k
  same_item k h = sym (item-at t n k h) ∙ ap (λ (s : Sheet). get_or s.items k no_item) e ∙ item-at t' n' k h

  sheet-number : (i : ℕ) → i < sheet_numbers → get_or n i 0 ≡ get_or n' i 0
  sheet-number i h = go (ltb i count_at) refl
    where
      go : (b : Bool) → ltb i count_at ≡ b → get_or n i 0 ≡ get_or n' i 0
      go true q =
          let w = ltb-true i count_at q in
          let k : i / item_numbers < item_count = omega arith in
          sym (slot_of item_numbers (omega arith) n i)
          ∙ item-number (slot line_most t (i / item_numbers)) (slot item_numbers n (i / item_numbers)) (slot line_most t' (i / item_numbers)) (slot item_numbers n' (i / item_numbers))
          (same_item (i / item_numbers) k) (i % item_numbers) (mod-lt i (omega arith))
          ∙ slot_of item_numbers (omega arith) n' i
      go false q =
          let w = ltb-false i count_at q in
          let m : count_at ≡ i = omega arith in
          ap (λ (x : ℕ). get_or n x 0) (sym m) ∙ sym (count-of t n) ∙ ap (λ (s : Sheet). s.count) e ∙ count-of t' n' ∙ ap (λ (x : ℕ). get_or n' x 0) m

module _ (t n t' n' : List ℕ) (z : Sized t n) (z' : Sized t' n') (e : desk_of t n ≡ desk_of t' n') (u : used_of n ≡ used_of n') where
  same_line : (k : ℕ) → k < bench_count → line_in t n k ≡ line_in t' n' k
  same_line k h = sym (line-at t n k h) ∙ ap (λ (d : Desk). line_at d k) e ∙ line-at t' n' k h

  same-sheet : (s : ℕ) → s < sheet_count → sheet_in t n s ≡ sheet_in t' n' s
  same-sheet s h = sym (sheet-at t n s h) ∙ ap (λ (d : Desk). sheet_at d s) e ∙ sheet-at t' n' s h

  same-slot : (k : ℕ) → k < bench_count + sheet_count * item_count → slot line_most t k ≡ slot line_most t' k
  same-slot k h = go (ltb k bench_count) refl
    where
      go : (b : Bool) → ltb k bench_count ≡ b → slot line_most t k ≡ slot line_most t' k
      go true q = ap (λ (l : Line). l.bytes) (same_line k (ltb-true k bench_count q))
      go false q =
          let w = ltb-false k bench_count q in
          let s : ℕ = (k - bench_count) / item_count in
          let i : ℕ = (k - bench_count) % item_count in
          let g : s < sheet_count = omega arith in
          let l : i < item_count = omega arith in
          let m : bench_count + (s * item_count + i) ≡ k = omega arith in
          ap (slot line_most t) (sym m) ∙ sym (item-slot t s i l)
          ∙ ap (λ (i : Item). i.value) (same_item (texts_of t s) (numbers_of n s) (texts_of t' s) (numbers_of n' s) (same-sheet s g) i l)
          ∙ item-slot t' s i l ∙ ap (slot line_most t') m

  pub same-texts : t ≡ t'
  same-texts =
      ext_get_or 0 t t' (z.texts ∙ sym z'.texts)
      (λ i h. let w : i / line_most < bench_count + sheet_count * item_count = omega (arith, z.texts) in
      sym (slot_of line_most (omega arith) t i) ∙ ap (λ (s : List ℕ). get_or s (i % line_most) 0) (same-slot (i / line_most) w) ∙ slot_of line_most (omega arith) t' i)

  -- a number of a sheet's block
  block-number : (m : List ℕ) (i : ℕ) → bench_count ≤ i
      → get_or (numbers_of m ((i - bench_count) / sheet_numbers)) ((i - bench_count) % sheet_numbers) 0 ≡ get_or m i 0
  block-number m i h =
      let x : bench_count + (i - bench_count) ≡ i = omega arith in
      slot_of sheet_numbers (omega arith) (drop bench_count m) (i - bench_count) ∙ get_or-drop bench_count m (i - bench_count) 0 ∙ ap (λ (y : ℕ). get_or m y 0) x

  same_number : (i : ℕ) → i < numbers_length → get_or n i 0 ≡ get_or n' i 0
  same_number i h = one (ltb i bench_count) refl
    where
      two : (b : Bool) → ltb i used_at ≡ b → bench_count ≤ i → get_or n i 0 ≡ get_or n' i 0
      two true q l =
          let w = ltb-true i used_at q in
          let s : ℕ = (i - bench_count) / sheet_numbers in
          let g : s < sheet_count = omega arith in
          sym (block-number n i l)
          ∙ sheet-number (texts_of t s) (numbers_of n s) (texts_of t' s) (numbers_of n' s) (same-sheet s g) ((i - bench_count) % sheet_numbers) (mod-lt (i - bench_count) (omega arith))
          ∙ block-number n' i l
      two false q l =
          let w = ltb-false i used_at q in
          let m : used_at ≡ i = omega arith in
          ap (λ (x : ℕ). get_or n x 0) (sym m) ∙ u ∙ ap (λ (x : ℕ). get_or n' x 0) m

      one : (b : Bool) → ltb i bench_count ≡ b → get_or n i 0 ≡ get_or n' i 0
      one true q = ap (λ (l : Line). l.len) (same_line i (ltb-true i bench_count q))
      one false q = two (ltb i used_at) refl (ltb-false i bench_count q)

  pub same_numbers : n ≡ n'
  same_numbers = ext_get_or 0 n n' (z.numbers ∙ sym z'.numbers) (λ i h. same_number i (omega (arith, z.numbers)))
