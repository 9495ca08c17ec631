-- The test of a record's shape says what the request's words say.
-- Assumes nothing.
use mathlib.Core.Path.{◌≡◌, refl, sym, ap, ◌∙◌}
use mathlib.Core.Bool.{true, false}
use mathlib.Core.List.{List, [], ◌∷◌}
use Prim.Native.Nat.{ℕ, ◌+◌, ◌*◌, ◌/◌, ◌%◌, ◌≤◌, ◌<◌}
use native.Mathlib.Omega.{arith}
use borrow.Author.Tests.{le-leb, lt-ltb}
use lib.ListN.{length, get_or, drop}
use Rattle.line_values.proofs.Values.{value-is, value_taken}
use Rattle.line_items.specs.Items.{item_row}
use Rattle.line_items.specs.Typed.{line_most}
use Rattle.line_kinds.specs.Kinds.{fits}
use Rattle.line_kinds.proofs.Wording.{passes-is, passes-taken}
use Rattle.line_kinds.proofs.Fitting.{fitting}
use Rattle.desk_log.specs.Record.{head_length, record_length, record_of, length_told, bench_told, item_told, value_told}
use Rattle.desk_state.specs.Desks.{bench_count}
use Rattle.desk_soundness.specs.SoundLog.{log_most}
use Rattle.reader_cuts.specs.Reading.{bad_length}
use Rattle.reader_cuts.proofs.Laws.{good_length, length-good}
use Rattle.reader_records.specs.Shape.{shaped}
use Rattle.reader_records.specs.Wording.{IsRecord}
use Rattle.reader_records.proofs.Shapes.{shaped-parts}

-- the first six bytes and the rest of a list that has them
six : (r : List ℕ) → head_length ≤ length r
    → r ≡ get_or r 0 0 ∷ get_or r 1 0 ∷ get_or r 2 0 ∷ get_or r 3 0 ∷ get_or r 4 0 ∷ get_or r 5 0 ∷ drop head_length r
six (a ∷ b ∷ c ∷ d ∷ e ∷ f ∷ x) h = refl
six [] h = absurd (omega arith)
six (a ∷ []) h = absurd (omega arith)
six (a ∷ b ∷ []) h = absurd (omega arith)
six (a ∷ b ∷ c ∷ []) h = absurd (omega arith)
six (a ∷ b ∷ c ∷ d ∷ []) h = absurd (omega arith)
six (a ∷ b ∷ c ∷ d ∷ e ∷ []) h = absurd (omega arith)

-- two bytes that tell a number below 256 are its little-endian bytes
low_byte : (a b n : ℕ) → a + 256 * b ≡ n → n < 256 → a ≡ n % 256
low_byte a b n e h = omega arith

high_byte : (a b n : ℕ) → a + 256 * b ≡ n → n < 256 → b ≡ n / 256 % 256
high_byte a b n e h = omega arith

-- a record that is as long as it tells, with a good length, is the record of what it tells
is-record-of : (r : List ℕ) → length_told r ≡ length r → bad_length (length r) ≡ false → get_or r 2 0 ≡ 1 → get_or r 3 0 ≡ 0
    → r ≡ record_of (bench_told r) (item_told r) (value_told r)
unfolding length_told
is-record-of r e g k z =
    let good = good_length (length r) g in
    let s = six r (omega arith) in
    let l : record_length (value_told r) ≡ length r = omega (arith, ap length s) in
    let a : get_or r 0 0 ≡ record_length (value_told r) % 256 = low_byte (get_or r 0 0) (get_or r 1 0) (record_length (value_told r)) (e ∙ sym l) (omega arith) in
    let b : get_or r 1 0 ≡ record_length (value_told r) / 256 % 256 = high_byte (get_or r 0 0) (get_or r 1 0) (record_length (value_told r)) (e ∙ sym l) (omega arith) in
    let x : List ℕ = value_told r in
    let rest : List ℕ = get_or r 4 0 ∷ get_or r 5 0 ∷ x in
    s ∙ ap (λ (n : ℕ). n ∷ get_or r 1 0 ∷ get_or r 2 0 ∷ get_or r 3 0 ∷ rest) a
    ∙ ap (λ (n : ℕ). record_length x % 256 ∷ n ∷ get_or r 2 0 ∷ get_or r 3 0 ∷ rest) b
    ∙ ap (λ (n : ℕ). record_length x % 256 ∷ record_length x / 256 % 256 ∷ n ∷ get_or r 3 0 ∷ rest) k
    ∙ ap (λ (n : ℕ). record_length x % 256 ∷ record_length x / 256 % 256 ∷ 1 ∷ n ∷ rest) z

module _ (start : ℕ) (r : List ℕ) where
  -- a record of good length and shape is one in the request's words
  pub shape_is : length_told r ≡ length r → bad_length (length r) ≡ false → shaped start r ≡ true → IsRecord start r (bench_told r) (item_told r) (value_told r)
  shape_is e g h =
      let p = shaped-parts start r h in
      let good = good_length (length r) g in
      let v : List ℕ = value_told r in
      let f = fitting (item_told r) v p.fit in
      record {
        bytes = is-record-of r e g p.kind-low p.kind-high;
        least = good.0;
        most = good.1;
        bench_in = p.bench_in;
        first = f.some;
        last = f.known;
        form = value-is v f.value;
        kind = passes-is (item_told r) v f.passes;
        typed = f.typed;
        line = f.line;
        within = p.within;
      }

  -- what the tests say of a record in the request's words
  pub record Tells (bench item : ℕ) (value : List ℕ) : Type 0 where
    pub length-told : length_told r ≡ length r
    pub good : bad_length (length r) ≡ false
    pub shape : shaped start r ≡ true
    pub of_bench : bench_told r ≡ bench
    pub of-item : item_told r ≡ item
    pub of-value : value_told r ≡ value

-- and the other way: a record in the request's words passes the tests, and tells its bench, item and value
pub shape-taken : (start : ℕ) (r : List ℕ) (bench item : ℕ) (v : List ℕ) → IsRecord start r bench item v → Tells start r bench item v
unfolding fits shaped length_told
shape-taken start r bench item v h =
    let x : List ℕ = record_of bench item v in
    let e : r ≡ x = h.bytes in
    let l : length r ≡ record_length v = ap length e ∙ omega arith in
    let told : length_told x ≡ length x = omega (arith, h.most, l) in
    let fit : fits item v ≡ true = simp (
      passes-taken item v h.first h.last h.kind,
      value_taken v h.form,
      h.typed,
      le-leb (length (item_row item).name + 1 + length v) line_most h.line,
    ) in
    let w : start + length x ≤ log_most = rw e at h.within in
    let s : shaped start x ≡ true = simp (lt-ltb bench bench_count h.bench_in, fit, le-leb (start + length x) log_most w) in
    record {
      length-told = rw e told;
      good = length-good (length r) h.least h.most;
      shape = rw e s;
      of_bench = ap bench_told e;
      of-item = ap item_told e;
      of-value = ap value_told e;
    }
