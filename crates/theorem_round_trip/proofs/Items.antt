-- The lines of a sheet's items, typed one after the other: the entries that they make, their number, and the value that each item then has.
-- Assumes nothing.
use mathlib.Core.Path.{◌≡◌, refl, sym, ap, ◌∙◌}
use mathlib.Core.Bool.{Bool, true, false, cond}
use mathlib.Core.List.{List, [], ◌∷◌, map-append}
use Prim.Native.Nat.{ℕ, zero, suc, ◌+◌, ◌≤◌, ◌<◌}
use native.Mathlib.Nat.{add-zero, add-suc, suc-add, not-suc-le-zero, le_of_suc-le-suc}
use native.Mathlib.Numerals.{add-one}
use native.Mathlib.Omega.{arith}
use borrow.Author.Tests.{eq-eqb, ne_eqb, eqb-true}
use lib.Dec.{ltb, leb, eqb}
use lib.ListN.{length, get_or, drop, length-append}
use Rattle.text_copies.specs.Each.{lines_from}
use Rattle.text.proofs.Bools.{and_both, cond-keeps}
use Rattle.line_items.specs.Items.{item_count}
use Rattle.line_items.specs.Typed.{line_most}
use Rattle.line_kinds.specs.Kinds.{fits}
use Rattle.desk_log.proofs.Records.{record-length}
use Rattle.desk_state.specs.Sheets.{empty_item, no_item, value_in}
use Rattle.desk_state.specs.Desks.{bench_count, sheet_of_bench}
use Rattle.desk_soundness.specs.Sound.{every, zeros, counted, sound_filled, sound_item}
use Rattle.desk_soundness.specs.SoundLog.{log_most}
use Rattle.desk_state.specs.declared.sheet.Item.{Item}
use Rattle.theorem_work.specs.Calls.{key, typing}
use Rattle.theorem_work.specs.Work.{Entry, records_of, last_of}
use Rattle.theorem_sequences.proofs.LineLaws.{typed-line_of}
use Rattle.theorem_work.proofs.OwnerLaws.{OneBench}
use Rattle.file_cif.specs.File.{item_line}
use Rattle.theorem_round_trip.specs.RoundTrip.{record_room, room_for, filled_count}
use Rattle.theorem_round_trip.proofs.Plays.{work_of, entry_of, Plays, plays-none, plays-then, line-plays}

-- the entries es, with one more where item k is filled
abbrev pub with_item : ℕ → ℕ → Item → List Entry → List Entry
with_item bench k i es = cond (eqb i.len 0) es (entry_of bench k (value_in i) ∷ es)

-- the same of some items, the first of them item k
abbrev pub with_items : ℕ → ℕ → List Item → List Entry → List Entry
with_items bench k [] es = es
with_items bench k (i ∷ is) es = with_items bench (suc k) is (with_item bench k i es)

-- the value of a filled item fits it
pub filled-fits : (s n j : ℕ) (i : Item) → eqb i.len 0 ≡ false → sound_item s n j i ≡ true → fits (suc j) (value_in i) ≡ true
unfolding sound_item sound_filled
filled-fits s n j i e h =
    let rest = zeros (drop i.len i.value) in
    let g : sound_filled s n (j + 1) i ≡ true = rw e at h in
    let g1 = (and_both (ltb i.bench bench_count) _ g).1 in
    let camp = (and_both (eqb (sheet_of_bench i.bench) s) _ g1).1 in
    let g2 = (and_both (counted n i.entry) _ camp).1 in
    let g3 = (and_both (counted n i.times) _ g2).1 in
    let g4 = (and_both (leb i.len line_most) _ g3).1 in
    ap (λ (k : ℕ). fits k (value_in i)) (sym (add-one j)) ∙ (and_both (fits (j + 1) (value_in i)) rest g4).0

-- ---- the keys

-- the records of the entries take the room of the items
item_room : (bench k : ℕ) (i : Item) (es : List Entry) → length (records_of (with_item bench k i es)) ≡ length (records_of es) + record_room i
item_room bench k i es = go (eqb i.len 0) refl
  where
    go : (t : Bool) → eqb i.len 0 ≡ t → length (records_of (with_item bench k i es)) ≡ length (records_of es) + record_room i
    go true e = rw e (omega arith)
    go false e = rw e (length-append (records_of es) _ ∙ ap (λ (n : ℕ). length (records_of es) + n) (record-length bench k (value_in i)))

-- they are all of the bench that types
item-alone : (bench k : ℕ) (i : Item) (es : List Entry) → OneBench bench es → OneBench bench (with_item bench k i es)
item-alone bench k i es alone = cond-keeps (OneBench bench) (eqb i.len 0) es (entry_of bench k (value_in i) ∷ es) (λ e. alone) (λ e. (refl, alone))

module _ (len bench : ℕ) (there : bench < bench_count) (small : len ≤ log_most) (s n : ℕ) where
  item-plays : (i : Item) (j : ℕ) (es : List Entry) → OneBench bench es → j < item_count → sound_item s n j i ≡ true
      → length (records_of es) + record_room i ≤ len
      → Plays len (work_of bench [] es) (typing bench (item_line (suc j) i)) (work_of bench [] (with_item bench (suc j) i es))
  unfolding item_line
  item-plays i j es alone known h room = go (eqb i.len 0) refl
    where
      go : (t : Bool) → eqb i.len 0 ≡ t → Plays len (work_of bench [] es) (typing bench (item_line (suc j) i)) (work_of bench [] (with_item bench (suc j) i es))
      go true e = rw e (plays-none len (work_of bench [] es))
      go false e = rw e (line-plays len bench there small (suc j) (value_in i) es alone (omega arith) known (filled-fits s n j i e h) (rw e at room))

  pub items-play : (is : List Item) (j : ℕ) (es : List Entry) → OneBench bench es → j + length is ≤ item_count → every (sound_item s n) j is ≡ true → length (records_of es) + room_for is ≤ len
      → Plays len (work_of bench [] es) (typing bench (lines_from item_line (suc j) is)) (work_of bench [] (with_items bench (suc j) is es))
  unfolding every lines_from
  items-play [] j es alone known h room = plays-none len (work_of bench [] es)
  items-play (i ∷ is) j es alone known h room =
      let k = and_both (sound_item s n j i) (every (sound_item s n) (suc j) is) h in
      let fs = with_item bench (suc j) i es in
      let m = item_room bench (suc j) i es in
      let first = item-plays i j es alone (omega arith) k.0 (omega arith) in
      let rest = items-play is (suc j) fs (item-alone bench (suc j) i es alone) (omega arith) k.1 (omega arith) in
      rw (map-append (key bench) (item_line (suc j) i) (lines_from item_line (suc (suc j)) is))
      (plays-then len (typing bench (item_line (suc j) i)) (typing bench (lines_from item_line (suc (suc j)) is)) (work_of bench [] es) (work_of bench [] fs)
      (work_of bench [] (with_items bench (suc (suc j)) is fs)) first rest)

pub items-alone : (bench k : ℕ) (is : List Item) (es : List Entry) → OneBench bench es → OneBench bench (with_items bench k is es)
items-alone bench k [] es alone = alone
items-alone bench k (i ∷ is) es alone = items-alone bench (suc k) is (with_item bench k i es) (item-alone bench k i es alone)

-- ---- the count

pub items-count : (bench k : ℕ) (is : List Item) (es : List Entry) → length (with_items bench k is es) ≡ length es + filled_count is
items-count bench k [] es = omega arith
items-count bench k (i ∷ is) es =
    let ih = items-count bench (suc k) is (with_item bench k i es) in
    let one = go (eqb i.len 0) refl in
    omega arith
  where
    go : (t : Bool) → eqb i.len 0 ≡ t → length (with_item bench k i es) ≡ length es + cond (eqb i.len 0) 0 1
    go true e = rw e (omega arith)
    go false e = rw e (omega arith)

-- ---- the values

-- the line of an item is the entry of no other
other_item : (bench k m : ℕ) (i : Item) (es : List Entry) → (m ≡ k → ⊥) → last_of (with_item bench k i es) m ≡ last_of es m
other_item bench k m i es n = go (eqb i.len 0) refl
  where
    go : (t : Bool) → eqb i.len 0 ≡ t → last_of (with_item bench k i es) m ≡ last_of es m
    go true e = rw e
    go false e = rw (e, ne_eqb m k n)

earlier-item : (bench k m : ℕ) (is : List Item) (es : List Entry) → m < k → last_of (with_items bench k is es) m ≡ last_of es m
earlier-item bench k m [] es h = refl
earlier-item bench k m (i ∷ is) es h =
    earlier-item bench (suc k) m is (with_item bench k i es) (omega arith) ∙ other_item bench k m i es (λ e. omega arith)

-- item k itself, where no entry named it before
this-item : (bench k : ℕ) (i : Item) (es : List Entry) → last_of es k ≡ empty_item → value_in (last_of (with_item bench k i es) k) ≡ value_in i
this-item bench k i es none = go (eqb i.len 0) refl
  where
    go : (t : Bool) → eqb i.len 0 ≡ t → value_in (last_of (with_item bench k i es) k) ≡ value_in i
    go true e = rw (e, none, eqb-true i.len 0 e)
    go false e = rw (e, eq-eqb k k refl) (typed-line_of (value_in i))

pub item-values : (bench k : ℕ) (is : List Item) (es : List Entry) (n : ℕ) → n < length is → ((m : ℕ) → k ≤ m → last_of es m ≡ empty_item)
    → value_in (last_of (with_items bench k is es) (k + n)) ≡ value_in (get_or is n no_item)
item-values bench k [] es n h none = absurd (not-suc-le-zero h)
item-values bench k (i ∷ is) es zero h none =
    ap (λ (m : ℕ). value_in (last_of (with_items bench (suc k) is (with_item bench k i es)) m)) (add-zero k)
    ∙ ap value_in (earlier-item bench (suc k) k is (with_item bench k i es) (omega arith)) ∙ this-item bench k i es (none k (omega arith))
item-values bench k (i ∷ is) es (suc n) h none =
    ap (λ (m : ℕ). value_in (last_of (with_items bench (suc k) is (with_item bench k i es)) m)) (add-suc k n ∙ sym (suc-add k n))
    ∙ item-values bench (suc k) is (with_item bench k i es) n (le_of_suc-le-suc h)
    (λ m p. other_item bench k m i es (λ e. omega arith) ∙ none m (omega arith))
