-- Sound items: a count that grows keeps them sound, and an entry's item is sound.
-- Assumes nothing.
use mathlib.Core.Path.{◌≡◌, refl, ap, ◌∙◌}
use mathlib.Core.Bool.{Bool, true, false, cond, ◌&&◌, false≢true}
use mathlib.Core.List.{List}
use Prim.Native.Nat.{ℕ, ◌+◌, ◌-◌, ◌≤◌, ◌<◌}
use native.Mathlib.Omega.{arith}
use borrow.Author.Tests.{le-leb, lt-ltb, eq-eqb, ne_eqb}
use lib.Dec.{ltb, leb, eqb}
use lib.ListN.{length, drop, replicate}
use lib.Seq.{take_at, drop_at}
use Rattle.text.specs.Run.{between}
use Rattle.text.proofs.Runs.{all_replicate}
use Rattle.line_items.specs.Typed.{line_most}
use Rattle.line_kinds.specs.Kinds.{fits}
use Rattle.line_kinds.proofs.Fitting.{fitting}
use Rattle.desk_state.specs.Lines.{padded}
use Rattle.desk_state.specs.Sheets.{filled, value_in}
use Rattle.desk_state.specs.Desks.{bench_count, sheet_of_bench}
use Rattle.desk_state.specs.declared.sheet.Item.{Item}
use Rattle.desk_soundness.specs.Sound.{zeros, sound_empty, counted, sound_filled, sound_item}
use Rattle.desk_items.proofs.Wording.{counted_is, counted-taken}

-- weaker tests under a conjunction, and under a choice
and-map : (a b c d : Bool) → (a ≡ true → b ≡ true) → (c ≡ true → d ≡ true) → (a && c) ≡ true → (b && d) ≡ true
and-map true true c d f g h = g h
and-map true false c d f g h = absurd (false≢true (f refl))
and-map false b c d f g h = absurd (false≢true h)

cond_map : (t x y z : Bool) → (y ≡ true → z ≡ true) → cond t x y ≡ true → cond t x z ≡ true
cond_map true x y z f h = h
cond_map false x y z f h = f h

counted-more : (n m : ℕ) → counted n m ≡ true → counted (n + 1) m ≡ true
counted-more n m h = let c = counted_is n m h in counted-taken (n + 1) m c.0 (omega (arith, c.1))

pub item-more : (sheet n k : ℕ) (i : Item) → sound_item sheet n k i ≡ true → sound_item sheet (n + 1) k i ≡ true
unfolding sound_item sound_filled
item-more sheet n k i h =
    let camp = eqb (sheet_of_bench i.bench) sheet in
    let rest = leb i.len line_most && (fits (k + 1) (value_in i) && zeros (drop i.len i.value)) in
    let old = counted n i.entry && (counted n i.times && rest) in
    let new = counted (n + 1) i.entry && (counted (n + 1) i.times && rest) in
    cond_map (eqb i.len 0) (sound_empty i) (sound_filled sheet n (k + 1) i) (sound_filled sheet (n + 1) (k + 1) i)
    (and-map (ltb i.bench bench_count) (ltb i.bench bench_count) (camp && old) (camp && new) (λ g. g)
    (and-map camp camp old new (λ g. g)
    (and-map (counted n i.entry) (counted (n + 1) i.entry) (counted n i.times && rest) (counted (n + 1) i.times && rest) (counted-more n i.entry)
    (and-map (counted n i.times) (counted (n + 1) i.times) rest rest (counted-more n i.times) (λ g. g)))))
    h

-- the item k, at place k - 1, filled by the entry n of the bench's sheet, one of m that name it
pub filled-sound : (bench n m k : ℕ) (v : List ℕ) → bench < bench_count → 1 ≤ m → m ≤ n → fits k v ≡ true
    → sound_item (sheet_of_bench bench) n (k - 1) (filled bench n m v) ≡ true
unfolding sound_item sound_filled between
filled-sound bench n m k v b one most h =
    let f = fitting k v h in
    let s = f.some in
    let l = f.long in
    let at : k - 1 + 1 ≡ k = omega arith in
    let typed : value_in (filled bench n m v) ≡ v = take_at v (replicate (line_most - length v) 0) (length v) refl in
    let value : fits (k - 1 + 1) (value_in (filled bench n m v)) ≡ true = ap (λ (j : ℕ). fits j (value_in (filled bench n m v))) at ∙ ap (fits k) typed ∙ h in
    let unused : zeros (drop (length v) (padded v)) ≡ true
    = ap zeros (drop_at v (replicate (line_most - length v) 0) (length v) refl) ∙ all_replicate (between 0 0) (line_most - length v) 0 refl in
    simp (
      ne_eqb (length v) 0 (omega arith),
      lt-ltb bench bench_count b,
      eq-eqb (sheet_of_bench bench) (sheet_of_bench bench) refl,
      counted-taken n n (omega arith) (omega arith),
      counted-taken n m one most,
      le-leb (length v) line_most f.short,
      value,
      unused,
    )
