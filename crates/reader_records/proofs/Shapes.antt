-- Laws of the shape of a record: a record that is too short for a head has none.
-- Assumes nothing.
use mathlib.Core.Path.{◌≡◌, refl, sym, ◌∙◌}
use mathlib.Core.Bool.{Bool, true, false, false≢true}
use mathlib.Core.List.{List}
use Prim.Native.Nat.{ℕ, ◌+◌, ◌≤◌, ◌<◌}
use native.Mathlib.Omega.{arith}
use borrow.Author.Tests.{ltb-true, ltb-false, leb-true, eqb-true}
use lib.Dec.{ltb, eqb}
use lib.ListN.{length, get_or, get_or-eq_default}
use Rattle.text.proofs.Bools.{and_both, not-holds}
use Rattle.line_kinds.specs.Kinds.{fits}
use Rattle.line_kinds.proofs.Fitting.{fitting}
use Rattle.line_items.specs.Items.{item_count}
use Rattle.desk_log.specs.Record.{head_length, bench_told, item_told, value_told}
use Rattle.desk_state.specs.Desks.{bench_count}
use Rattle.desk_soundness.specs.SoundLog.{log_most}
use Rattle.reader_records.specs.Shape.{shaped}

-- the tests of the shape, one by one
pub record Shaped (start : ℕ) (r : List ℕ) : Type 0 where
  pub kind-low : get_or r 2 0 ≡ 1
  pub kind-high : get_or r 3 0 ≡ 0
  pub bench_in : bench_told r < bench_count
  pub fit : fits (item_told r) (value_told r) ≡ true
  pub within : start + length r ≤ log_most

pub shaped-parts : (start : ℕ) (r : List ℕ) → shaped start r ≡ true → Shaped start r
unfolding shaped
shaped-parts start r e =
    let low = and_both (eqb (get_or r 2 0) 1) _ e in
    let high = and_both (eqb (get_or r 3 0) 0) _ low.1 in
    let bench = and_both (ltb (bench_told r) bench_count) _ high.1 in
    let fit = and_both (fits (item_told r) (value_told r)) _ bench.1 in
    record {
      kind-low = eqb-true (get_or r 2 0) 1 low.0;
      kind-high = eqb-true (get_or r 3 0) 0 high.0;
      bench_in = ltb-true (bench_told r) bench_count bench.0;
      fit = fit.0;
      within = leb-true (start + length r) log_most fit.1;
    }

-- without a whole head there is no item
pub short-shapeless : (start : ℕ) (r : List ℕ) → length r < head_length → shaped start r ≡ false
short-shapeless start r h =
    not-holds (shaped start r) (λ e.
    let p = shaped-parts start r e in
    let k = fitting (item_told r) (value_told r) p.fit in
    let z : item_told r ≡ 0 = get_or-eq_default r 0 (omega arith) in
    omega (arith, k.some, z))

-- a record of that shape has a whole head, and its item is known
pub shaped-long : (start : ℕ) (r : List ℕ) → shaped start r ≡ true → head_length ≤ length r
shaped-long start r e = go (ltb (length r) head_length) refl
  where
    go : (b : Bool) → ltb (length r) head_length ≡ b → head_length ≤ length r
    go true p = absurd (false≢true (sym (short-shapeless start r (ltb-true (length r) head_length p)) ∙ e))
    go false p = ltb-false (length r) head_length p

pub shaped-item : (start : ℕ) (r : List ℕ) → shaped start r ≡ true → (1 ≤ item_told r) × (item_told r ≤ item_count)
shaped-item start r e = let f = fitting (item_told r) (value_told r) (shaped-parts start r e).fit in (f.some, f.known)
