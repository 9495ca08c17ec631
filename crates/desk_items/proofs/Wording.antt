-- The test of an item says what the documents' words say.
-- Assumes nothing.
use mathlib.Core.Path.{◌≡◌, refl, ap, ◌∙◌}
use mathlib.Core.Bool.{Bool, true, false, cond}
use mathlib.Core.List.{List}
use Prim.Native.Nat.{ℕ, ◌+◌, ◌≤◌}
use native.Mathlib.Omega.{arith}
use borrow.Author.Tests.{leb-true, le-leb, ltb-true, lt-ltb, eqb-true, eqb-false, eq-eqb, ne_eqb}
use lib.Dec.{leb, ltb, eqb}
use lib.ListN.{length, drop}
use Rattle.text.specs.Run.{between}
use Rattle.text.proofs.Bools.{and_both}
use Rattle.text.proofs.Runs.{all_replicate, all_same}
use Rattle.line_values.proofs.Values.{value-is, value_taken}
use Rattle.line_items.specs.Items.{item_row}
use Rattle.line_items.specs.Typed.{line_most}
use Rattle.line_kinds.specs.Kinds.{fits}
use Rattle.line_kinds.proofs.Wording.{passes-is, passes-taken}
use Rattle.line_kinds.proofs.Fitting.{fitting}
use Rattle.desk_state.specs.Sheets.{value_in}
use Rattle.desk_state.specs.Desks.{bench_count, sheet_of_bench}
use Rattle.desk_state.specs.declared.sheet.Item.{Item}
use Rattle.desk_items.specs.Sound.{zeros, sound_empty, counted, sound_filled, sound_item}
use Rattle.desk_items.specs.Wording.{AreZero, EmptyItem, FilledItem, SoundItem}

pub zeros-taken : (bs : List ℕ) → AreZero bs → zeros bs ≡ true
unfolding between
zeros-taken bs e = ap zeros e ∙ all_replicate (between 0 0) (length bs) 0 refl

empty-is : (i : Item) → i.len ≡ 0 → sound_empty i ≡ true → EmptyItem i
unfolding sound_empty
empty-is i z e =
    let bench = and_both (eqb i.bench 0) _ e in
    let entry = and_both (eqb i.entry 0) _ bench.1 in
    let times = and_both (eqb i.times 0) _ entry.1 in
    record {
      len = z;
      bench = eqb-true i.bench 0 bench.0;
      entry = eqb-true i.entry 0 entry.0;
      times = eqb-true i.times 0 times.0;
      value = all_same 0 i.value times.1;
    }

empty-taken : (i : Item) → EmptyItem i → sound_empty i ≡ true
unfolding sound_empty
empty-taken i h = simp (eq-eqb i.bench 0 h.bench, eq-eqb i.entry 0 h.entry, eq-eqb i.times 0 h.times, zeros-taken i.value h.value)

pub counted_is : (count n : ℕ) → counted count n ≡ true → (1 ≤ n) × (n ≤ count)
unfolding counted
counted_is count n e = let b = and_both (leb 1 n) (leb n count) e in (leb-true 1 n b.0, leb-true n count b.1)

pub counted-taken : (count n : ℕ) → 1 ≤ n → n ≤ count → counted count n ≡ true
unfolding counted
counted-taken count n f l = simp (le-leb 1 n f, le-leb n count l)

module _ (sheet count k : ℕ) (i : Item) where
  filled_is : (i.len ≡ 0 → ⊥) → sound_filled sheet count k i ≡ true → FilledItem sheet count k i
  unfolding sound_filled
  filled_is some e =
      let v = value_in i in
      let bench = and_both (ltb i.bench bench_count) _ e in
      let camp = and_both (eqb (sheet_of_bench i.bench) sheet) _ bench.1 in
      let entry = and_both (counted count i.entry) _ camp.1 in
      let times = and_both (counted count i.times) _ entry.1 in
      let most = and_both (leb i.len line_most) _ times.1 in
      let fit = and_both (fits k v) _ most.1 in
      let f = fitting k v fit.0 in
      record {
        known = f.known;
        some = omega (arith, some);
        most = leb-true i.len line_most most.0;
        bench = ltb-true i.bench bench_count bench.0;
        camp = eqb-true (sheet_of_bench i.bench) sheet camp.0;
        first = (counted_is count i.entry entry.0).0;
        last = (counted_is count i.entry entry.0).1;
        once = (counted_is count i.times times.0).0;
        often = (counted_is count i.times times.0).1;
        form = value-is v f.value;
        bytes = f.typed;
        kind = passes-is k v f.passes;
        line = f.line;
        unused = all_same 0 (drop i.len i.value) fit.1;
      }

  filled-taken : 1 ≤ k → FilledItem sheet count k i → sound_filled sheet count k i ≡ true
  unfolding sound_filled fits
  filled-taken one h =
      let v = value_in i in
      simp (
        lt-ltb i.bench bench_count h.bench,
        eq-eqb (sheet_of_bench i.bench) sheet h.camp,
        counted-taken count i.entry h.first h.last,
        counted-taken count i.times h.once h.often,
        le-leb i.len line_most h.most,
        passes-taken k v one h.known h.kind,
        value_taken v h.form,
        h.bytes,
        le-leb (length (item_row k).name + 1 + length v) line_most h.line,
        zeros-taken (drop i.len i.value) h.unused,
      )

module _ (sheet count n : ℕ) (i : Item) where
  item_by : (b : Bool) → eqb i.len 0 ≡ b → cond b (sound_empty i) (sound_filled sheet count (n + 1) i) ≡ true → SoundItem sheet count (n + 1) i
  item_by true e s = SoundItem.empty (empty-is i (eqb-true i.len 0 e) s)
  item_by false e s = SoundItem.filled (filled_is sheet count (n + 1) i (eqb-false i.len 0 e) s)

  pub item-is : sound_item sheet count n i ≡ true → SoundItem sheet count (n + 1) i
  unfolding sound_item
  item-is e = item_by (eqb i.len 0) refl e

  pub item-taken : SoundItem sheet count (n + 1) i → sound_item sheet count n i ≡ true
  unfolding sound_item
  item-taken (SoundItem.empty h) = simp (eq-eqb i.len 0 h.len, empty-taken i h)
  item-taken (SoundItem.filled h) =
      let m = h.some in
      simp (ne_eqb i.len 0 (λ e. omega arith), filled-taken sheet count (n + 1) i (omega arith) h)

-- a sound item was named at most as often as there are entries
pub times-most : (sheet count k : ℕ) (i : Item) → SoundItem sheet count k i → i.times ≤ count
times-most sheet count k i (SoundItem.empty h) = omega (arith, h.times)
times-most sheet count k i (SoundItem.filled h) = h.often
