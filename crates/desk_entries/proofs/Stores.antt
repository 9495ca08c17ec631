-- One entry more in lent memory is a step of the definitions: once for any bench and any item.
-- Assumes nothing.
use mathlib.Core.Path.{◌≡◌, refl, sym, ap, ◌∙◌}
use mathlib.Core.Bool.{Bool, true, false}
use mathlib.Core.List.{List, [], ◌∷◌}
use Prim.Native.Nat.{ℕ, ◌+◌, ◌*◌, ◌-◌, ◌≤◌, ◌<◌}
use native.Mathlib.Omega.{arith}
use borrow.Author.Tests.{leb-true, ltb-true, ltb-false}
use borrow.Rule.Slice.PartMut.{put_mid}
use lib.Dec.{ltb, leb}
use lib.ListN.{length, get_or, take, drop, set, replicate, length-set, length-append, length-replicate}
use lib.Seq.{get_or-set_same, get_or-set_other}
use Rattle.text.proofs.Bools.{and_both}
use Rattle.text_copies.specs.Copy.{copied}
use Rattle.text_copies.proofs.Copies.{copied-then}
use Rattle.line_items.specs.Typed.{line_most}
use Rattle.line_items.specs.Items.{item_count, is_item}
use Rattle.desk_state.specs.Lines.{padded}
use Rattle.desk_state.specs.Sheets.{filled}
use Rattle.desk_state.specs.Desks.{bench_count, sheet_count, sheet_of_bench, sheet_at, with_sheet}
use Rattle.desk_state.specs.declared.sheet.Item.{Item}
use Rattle.desk_state.specs.declared.sheet.Sheet.{Sheet}
use Rattle.desk_memory.specs.Memory.{item_numbers, count_at, sheet_numbers, used_at, Sized, is_desk, slot, item_from, item_in, sheet_from, texts_of, numbers_of, sheet_in, desk_of, used_of}
use Rattle.desk_memory.proofs.Parts.{part-after, put-before, put-here, put-after, part-put-before, part-put-after}
use Rattle.desk_memory.proofs.Slots.{slots_apart, slot-set, slot-set-other, slot-copied, slot-copied-other, slot-long, slot-get, block-lent}
use Rattle.desk_memory.proofs.Desks.{desk-sized, still-desk, item-at, count-of, item-slot, desk-same, desk-sheet, sheet-same, sheet-item}
use Rattle.desk_soundness.specs.SoundLog.{log_most}
use Rattle.desk_entries.specs.Entry.{with_entry, with_entry_on, own_item}
use Rattle.desk_entries.specs.Lent.{takes, Few, EntryNumbers}
use Rattle.desk_entries.proofs.Camps.{sheet-in, own-sheet, own-count, own-times}

-- a sheet with another item and count
abbrev with_item : Sheet → ℕ → Item → ℕ → Sheet
with_item s k i count = record { items = set s.items k i; count = count }

pub padded-length : (v : List ℕ) → length v ≤ line_most → length (padded v) ≡ line_most
padded-length v h = length-append v (replicate (line_most - length v) 0) ∙ ap (λ (x : ℕ). length v + x) (length-replicate (line_most - length v) 0) ∙ omega arith

-- a text copied in and zeros after it are the padded text
pub padded-in : (t : List ℕ) (to : ℕ) (v : List ℕ) → length v ≤ line_most → to + line_most ≤ length t
    → copied (copied t to v) (to + length v) (replicate (line_most - length v) 0) ≡ copied t to (padded v)
padded-in t to v h w =
    let z : List ℕ = replicate (line_most - length v) 0 in
    let l : length z ≡ line_most - length v = length-replicate (line_most - length v) 0 in
    copied-then t to (to + length v) v z refl (omega arith)

-- what memory that takes an entry is
pub record Taken (t n : List ℕ) (bench item : ℕ) (v : List ℕ) : Type 0 where
  pub sized : Sized t n
  pub bench_in : bench < bench_count
  pub some : 1 ≤ item
  pub known : item ≤ item_count
  pub short : length v ≤ line_most
  pub few : Few (numbers_of n (sheet_of_bench bench)) (item - 1)

module _ (t n : List ℕ) (bench item : ℕ) (v : List ℕ) where
  pub taken_is : takes t n bench item v ≡ true → Taken t n bench item v
  unfolding takes
  taken_is e =
      let desk = and_both (is_desk t n) _ e in
      let bench_in = and_both (ltb bench bench_count) _ desk.1 in
      let known = and_both (is_item item) _ bench_in.1 in
      let one = and_both (leb 1 item) _ known.0 in
      let short = and_both (leb (length v) line_most) _ known.1 in
      let few = and_both (ltb (sheet_at (desk_of t n) (sheet_of_bench bench)).count log_most) _ short.1 in
      let b = ltb-true bench bench_count bench_in.0 in
      let first = leb-true 1 item one.0 in
      let last = leb-true item item_count one.1 in
      record {
        sized = desk-sized t n desk.0;
        bench_in = b;
        some = first;
        known = last;
        short = leb-true (length v) line_most short.0;
        few = record {
          count = omega (arith, ltb-true (sheet_at (desk_of t n) (sheet_of_bench bench)).count log_most few.0, own-count t n bench b);
          times = omega (arith, ltb-true (own_item (desk_of t n) bench item).times log_most few.1, own-times t n bench b item (omega arith));
        };
      }

-- the used number is no part of a sheet, nor of the desk
module _ (t n : List ℕ) (u : ℕ) where
  used-apart : (s : ℕ) → s < sheet_count → numbers_of (set n used_at u) s ≡ numbers_of n s
  used-apart s h =
      let a = bench_count + s * sheet_numbers in
      sym (block-lent sheet_numbers (set n used_at u) s bench_count a (a + sheet_numbers) refl refl) ∙ part-after n a (a + sheet_numbers - a) used_at u (omega arith)
      ∙ block-lent sheet_numbers n s bench_count a (a + sheet_numbers) refl refl

  pub used-desk : desk_of t (set n used_at u) ≡ desk_of t n
  used-desk = desk-same t n t (set n used_at u) (λ j g. refl) (λ j g. get_or-set_other n used_at j u 0 (λ q. omega arith)) (λ j g. ap (sheet_from (texts_of t j)) (used-apart j g))

  pub used-takes : (bench item : ℕ) (v : List ℕ) → takes t (set n used_at u) bench item v ≡ takes t n bench item v
  unfolding takes
  used-takes bench item v = rw (still-desk t n t (set n used_at u) refl (length-set n used_at u), used-desk)

-- an item's slot filled, and the sheet's numbers with the entry, as their part came back
module _ (t n : List ℕ) (bench item : ℕ) (v m : List ℕ) (h : Taken t n bench item v) (l : length m ≡ sheet_numbers) where
  abbrev s : ℕ
  s = sheet_of_bench bench

  abbrev k : ℕ
  k = item - 1

  abbrev at : ℕ
  at = bench_count + s * sheet_numbers

  abbrev place : ℕ
  place = bench_count + s * item_count + k

  abbrev t' : List ℕ
  t' = copied t (place * line_most) (padded v)

  abbrev n' : List ℕ
  n' = put_mid at (at + sheet_numbers - at) n m

  in-sheets : s < sheet_count
  in-sheets = sheet-in bench h.bench_in

  fits : at + sheet_numbers ≤ length n
  fits = omega (arith, in-sheets, h.sized.numbers)

  pub used-kept : used_of n' ≡ used_of n
  used-kept = put-after at (at + sheet_numbers) n m (omega arith) fits (omega arith) used_at (omega (arith, in-sheets))

  own-numbers : numbers_of n' s ≡ m
  own-numbers =
      sym (block-lent sheet_numbers n' s bench_count at (at + sheet_numbers) refl refl) ∙ put-here at (at + sheet_numbers) n m (omega arith) fits (omega arith)

  -- the numbers of another sheet
  module _ (j : ℕ) (d : j ≡ s → ⊥) where
    abbrev from : ℕ
    from = bench_count + j * sheet_numbers

    part-kept : (z : Bool) → ltb j s ≡ z → take (from + sheet_numbers - from) (drop from n') ≡ take (from + sheet_numbers - from) (drop from n)
    part-kept true e =
        let x = slots_apart sheet_numbers j s (ltb-true j s e) in
        part-put-before at (at + sheet_numbers) n m (omega arith) fits (omega arith) from (from + sheet_numbers - from) (omega arith)
    part-kept false e =
        let y = ltb-false j s e in
        let x = slots_apart sheet_numbers s j (omega (arith, d)) in
        part-put-after at (at + sheet_numbers) n m (omega arith) fits (omega arith) from (from + sheet_numbers - from) (omega arith)

    other-numbers : numbers_of n' j ≡ numbers_of n j
    other-numbers =
        sym (block-lent sheet_numbers n' j bench_count from (from + sheet_numbers) refl refl) ∙ part-kept (ltb j s) refl
        ∙ block-lent sheet_numbers n j bench_count from (from + sheet_numbers) refl refl

  long : length (padded v) ≡ line_most
  long = padded-length v h.short

  room : place * line_most + line_most ≤ length t
  room = omega (arith, in-sheets, h.known, h.some, h.sized.texts)

  other : (j : ℕ) → (j ≡ place → ⊥) → slot line_most t' j ≡ slot line_most t j
  other = slot-copied-other line_most t place (padded v) long room

  k-in : k < item_count
  k-in = omega (arith, h.known, h.some)

  other-sheet : (j : ℕ) → (j ≡ s → ⊥) → sheet_in t' n' j ≡ sheet_in t n j
  other-sheet j d =
      sheet-same (texts_of t j) (numbers_of n j) (texts_of t' j) (numbers_of n' j)
      (λ i g. item-slot t' j i g ∙ other (bench_count + (j * item_count + i)) (λ x. d (omega (arith, k-in))) ∙ sym (item-slot t j i g)) (other-numbers j d)

  module _ (p : EntryNumbers (numbers_of n s) k (length v) bench m) where
    own-entry : sheet_from (texts_of t' s) m ≡ with_entry (sheet_at (desk_of t n) s) bench item v
    own-entry =
        let old : Sheet = sheet_in t n s in
        let count : ℕ = get_or (numbers_of n s) count_at 0 in
        let times : ℕ = get_or (slot item_numbers (numbers_of n s) k) 3 0 in
        let here : slot line_most (texts_of t' s) k ≡ padded v
        = item-slot t' s k k-in ∙ ap (slot line_most t') (omega arith) ∙ slot-copied line_most t place (padded v) long room in
        let put : item_in (texts_of t' s) m k ≡ filled bench (count + 1) (times + 1) v
        = ap (λ (x : List ℕ). item_from x (slot item_numbers m k)) here ∙ ap (item_from (padded v)) p.here in
        let sheet : sheet_from (texts_of t' s) m ≡ with_item old k (item_in (texts_of t' s) m k) (get_or m count_at 0)
        = sheet-item (texts_of t s) (numbers_of n s) (texts_of t' s) m k
        (λ j g d. item-slot t' s j g ∙ other (bench_count + (s * item_count + j)) (λ x. d (omega arith)) ∙ sym (item-slot t s j g)) p.others in
        sheet ∙ ap (λ (x : Item). with_item old k x (get_or m count_at 0)) put ∙ ap (with_item old k (filled bench (count + 1) (times + 1) v)) p.count
        ∙ ap (λ (x : ℕ). with_item old k (filled bench (x + 1) (times + 1) v) (x + 1)) (sym (count-of (texts_of t s) (numbers_of n s)))
        ∙ ap (λ (x : Item). with_item old k (filled bench (old.count + 1) (x.times + 1) v) (old.count + 1)) (sym (item-at (texts_of t s) (numbers_of n s) k k-in))
        ∙ ap (λ (x : Sheet). with_entry x bench item v) (sym (own-sheet t n bench h.bench_in))

    pub item-in : desk_of t' n' ≡ with_entry_on (desk_of t n) bench item v
    item-in =
        desk-sheet t n t' n' (λ j g. other j (λ x. omega arith)) (λ j g. put-before at (at + sheet_numbers) n m (omega arith) fits (omega arith) j (omega arith)) s
        (λ j g d. other-sheet j d)
        ∙ ap (with_sheet (desk_of t n) s) (ap (sheet_from (texts_of t' s)) own-numbers ∙ own-entry)

-- the numbers of an entry, stored one after the other
pub numbers-stored : (n : List ℕ) (k len bench : ℕ) → k < item_count → length n ≡ sheet_numbers
    → (let e = get_or n count_at 0 + 1 in
    let m = get_or n (k * item_numbers + 3) 0 + 1 in
    EntryNumbers n k len bench (set (set (set (set (set n (k * item_numbers + 0) len) (k * item_numbers + 1) e) (k * item_numbers + 2) bench) (k * item_numbers + 3) m) count_at e))
numbers-stored n k len bench h l =
    let e : ℕ = get_or n count_at 0 + 1 in
    let m : ℕ = get_or n (k * item_numbers + 3) 0 + 1 in
    let n1 : List ℕ = set n (k * item_numbers + 0) len in
    let n2 : List ℕ = set n1 (k * item_numbers + 1) e in
    let n3 : List ℕ = set n2 (k * item_numbers + 2) bench in
    let n4 : List ℕ = set n3 (k * item_numbers + 3) m in
    let old : List ℕ = slot item_numbers n k in
    let z : length old ≡ item_numbers = slot-long item_numbers n k (omega arith) in
    let l4 : length n4 ≡ sheet_numbers
    = length-set n3 (k * item_numbers + 3) m ∙ length-set n2 (k * item_numbers + 2) bench ∙ length-set n1 (k * item_numbers + 1) e ∙ length-set n (k * item_numbers + 0) len ∙ l in
    let s1 : slot item_numbers n1 k ≡ set old 0 len = slot-set item_numbers n k 0 len (omega arith) in
    let s2 : slot item_numbers n2 k ≡ set (set old 0 len) 1 e = slot-set item_numbers n1 k 1 e (omega arith) ∙ ap (λ (x : List ℕ). set x 1 e) s1 in
    let s3 : slot item_numbers n3 k ≡ set (set (set old 0 len) 1 e) 2 bench = slot-set item_numbers n2 k 2 bench (omega arith) ∙ ap (λ (x : List ℕ). set x 2 bench) s2 in
    record {
      here =
          slot-set-other item_numbers n4 item_count 0 e (omega arith) k (λ q. omega arith) ∙ slot-set item_numbers n3 k 3 m (omega arith) ∙ ap (λ (x : List ℕ). set x 3 m) s3
          ∙ four old len e bench m z ∙ ap (λ (x : ℕ). len ∷ e ∷ bench ∷ (x + 1) ∷ []) (sym (slot-get item_numbers n k 3 (omega arith)));
      others = λ j g d.
          slot-set-other item_numbers n4 item_count 0 e (omega arith) j (λ q. omega arith) ∙ slot-set-other item_numbers n3 k 3 m (omega arith) j d
          ∙ slot-set-other item_numbers n2 k 2 bench (omega arith) j d ∙ slot-set-other item_numbers n1 k 1 e (omega arith) j d
          ∙ slot-set-other item_numbers n k 0 len (omega arith) j d;
      count = get_or-set_same n4 count_at e 0 (omega arith);
    }
  where
    four : (m : List ℕ) (a b c d : ℕ) → length m ≡ item_numbers → set (set (set (set m 0 a) 1 b) 2 c) 3 d ≡ a ∷ b ∷ c ∷ d ∷ []
    four [] a b c d e = absurd (omega arith)
    four (x ∷ []) a b c d e = absurd (omega arith)
    four (x ∷ y ∷ []) a b c d e = absurd (omega arith)
    four (x ∷ y ∷ z ∷ []) a b c d e = absurd (omega arith)
    four (x ∷ y ∷ z ∷ u ∷ []) a b c d e = refl
    four (x ∷ y ∷ z ∷ u ∷ v ∷ m) a b c d e = absurd (omega arith)
