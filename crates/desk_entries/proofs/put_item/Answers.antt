-- `desk_entries::put_item` meets its contract: the item's slot, and the numbers of its sheet's block.
-- Assumes nothing.
use native.Mathlib.Omega.{arith}
use mathlib.Core.Path.{◌≡◌, refl, ◌∙◌, ap, sym, subst}
use mathlib.Core.List.{List}
use Prim.Native.Nat.{ℕ, ◌+◌, ◌*◌, ◌-◌, ◌/◌, ◌<◌}
use borrow.Rule.Slice.PartMut.{put_mid, mid_len}
use lib.ListN.{length, take, drop}
use Rattle.desk_state.specs.Desks.{bench_count, benches_each, sheet_count, sheet_of_bench}
use Rattle.desk_memory.specs.Memory.{sheet_numbers, numbers_of, desk_of}
use Rattle.desk_memory.proofs.Slots.{block-lent}
use Rattle.desk_entries.specs.Lent.{Few, EntryNumbers}
use Rattle.desk_entries.proofs.Camps.{sheet-in}
use Rattle.desk_entries.proofs.Stores.{Taken, taken_is, item-in, used-kept}
use Rattle.desk_entries.proofs.put_item.Goals as goal
use Rattle.desk_entries.proofs.put_item.Goals.{Start}

taken : (c : Start) → (let a = c.args in Taken a.texts.now a.numbers.now a.bench a.item a.value.now)
taken c = let a = c.args in taken_is a.texts.now a.numbers.now a.bench a.item a.value.now c.requires

-- the bench's sheet is one of the desk's
sheet-here : (c : Start) → sheet_of_bench c.args.bench < sheet_count
sheet-here c = sheet-in c.args.bench (taken c).bench_in

-- the same, as the code has it
half : (c : Start) → c.args.bench / benches_each < sheet_count
unfolding sheet_of_bench
half c = sheet-here c

-- its numbers, as they are lent
lent : (c : Start) → (let n = c.args.numbers.now in
    let at = bench_count + sheet_of_bench c.args.bench * sheet_numbers in
    take (at + sheet_numbers - at) (drop at n) ≡ numbers_of n (sheet_of_bench c.args.bench))
lent c =
    let at = bench_count + sheet_of_bench c.args.bench * sheet_numbers in
    block-lent sheet_numbers c.args.numbers.now (sheet_of_bench c.args.bench) bench_count at (at + sheet_numbers) refl refl

pub overflow_sub-k : goal.overflow_sub-k
overflow_sub-k c = omega (arith, (taken (goal.at.overflow_sub-k c).Start).some)

pub put_value-requires : goal.put_value-requires
unfolding sheet_of_bench
put_value-requires c =
    let h = (taken (goal.at.put_value-requires c).Start) in
    (h.short, omega (arith, (sheet-here (goal.at.put_value-requires c).Start), h.known, h.some, h.sized.texts))

pub slice_bounds-put_numbers-end : goal.slice_bounds-put_numbers-end
unfolding sheet_of_bench
slice_bounds-put_numbers-end c = omega (arith, (sheet-here (goal.at.slice_bounds-put_numbers-end c).Start), (taken (goal.at.slice_bounds-put_numbers-end c).Start).sized.numbers)

pub put_numbers-requires : goal.put_numbers-requires
unfolding sheet_of_bench
put_numbers-requires c =
    let h = (taken (goal.at.put_numbers-requires c).Start) in
    let n = c.args.numbers.now in
    let at = bench_count + sheet_of_bench c.args.bench * sheet_numbers in
    let l = mid_len at (at + sheet_numbers) n (omega (arith, (sheet-here (goal.at.put_numbers-requires c).Start), h.sized.numbers)) in
    (omega (arith, h.known, h.some), subst (λ (m : List ℕ). Few m (c.args.item - 1)) (sym (lent (goal.at.put_numbers-requires c).Start)) h.few, l ∙ omega arith)

pub returns : goal.returns
unfolding sheet_of_bench
returns c =
    let a = c.args in
    let t = a.texts.now in
    let n = a.numbers.now in
    let h = (taken (goal.at.returns c).Start) in
    let m = c.put_numbers.new.numbers in
    let at = bench_count + sheet_of_bench a.bench * sheet_numbers in
    let part = mid_len at (at + sheet_numbers) n (omega (arith, (sheet-here (goal.at.returns c).Start), h.sized.numbers)) in
    let l : length m ≡ sheet_numbers = omega (arith, part) in
    let e = subst (λ (x : List ℕ). EntryNumbers x (a.item - 1) (length a.value.now) a.bench m) (lent (goal.at.returns c).Start) c.put_numbers.ensures in (
      ap (λ (x : List ℕ). desk_of x (put_mid at (at + sheet_numbers - at) n m)) c.put_value.ensures ∙ item-in t n a.bench a.item a.value.now m h l e,
      used-kept t n a.bench a.item a.value.now m h l,
    )

pub overflow_mul-sheet : goal.overflow_mul-sheet
overflow_mul-sheet c = omega (arith, (half (goal.at.overflow_mul-sheet c).Start))

pub overflow_add-sheet : goal.overflow_add-sheet
overflow_add-sheet c = omega (arith, (half (goal.at.overflow_add-sheet c).Start))

pub overflow_add-sheet-2 : goal.overflow_add-sheet-2
overflow_add-sheet-2 c = omega (arith, (half (goal.at.overflow_add-sheet-2 c).Start), (taken (goal.at.overflow_add-sheet-2 c).Start).known)

pub overflow_mul-at : goal.overflow_mul-at
overflow_mul-at c = omega (arith, (half (goal.at.overflow_mul-at c).Start))

pub overflow_add-at : goal.overflow_add-at
overflow_add-at c = omega (arith, (half (goal.at.overflow_add-at c).Start))

pub overflow_add-end : goal.overflow_add-end
overflow_add-end c = omega (arith, (half (goal.at.overflow_add-end c).Start))

pub offset_bounds-numbers-at : goal.offset_bounds-numbers-at
offset_bounds-numbers-at c = omega (arith, (half (goal.at.offset_bounds-numbers-at c).Start))
