-- `number_decimal::unsigned` meets its contract: the runs are the digits of `unsigned_of`, and the second goes on with the number that the first one wrote.
-- Assumes nothing.
use native.Mathlib.Omega.{arith}
use mathlib.Core.Path.{◌≡◌, refl, sym, ap, subst, ◌∙◌}
use mathlib.Core.Bool.{Bool, true, false, cond}
use mathlib.Core.List.{List, ◌++◌}
use Prim.Native.Nat.{ℕ, ◌+◌, ◌*◌, ◌^◌, ◌≤◌, ◌<◌}
use native.Mathlib.Nat.{mul-le-mul_right}
use lib.ListN.{length, take, drop, length-drop, length-append}
use lib.Pow.{pow-add}
use lib.Seq.{drop-drop}
use Rattle.text.specs.Run.{run_of, has_at, is_digit}
use Rattle.text.proofs.Parts.{rest_part}
use Rattle.text.proofs.Runs.{run_short, run_length, run-taken, has_within, all_append}
use Rattle.number_decimal.specs.Digits.{most_bytes, value_from}
use Rattle.number_decimal.specs.Reading.{size_of, digits_of, fraction_at, unsigned_of}
use Rattle.number_decimal.proofs.Values.{ten-le, value-append, value-below}
use Rattle.number_decimal.proofs.unsigned.Goals as goal
use Rattle.number_decimal.proofs.unsigned.Goals.{After-point_length, After-read_run-fraction}

module _ (s : List ℕ) where
  -- the digits before the point, where those after it begin, what is there, and how many they are
  abbrev n : ℕ
  n = run_of is_digit s

  abbrev from : ℕ
  from = fraction_at s

  abbrev f : List ℕ
  f = drop from s

  abbrev k : ℕ
  k = run_of is_digit f

  abbrev first : ℕ
  first = value_from 0 (take n s)

  abbrev both : ℕ
  both = value_from first (take k f)

  point-within : (t : Bool) → has_at s n 46 ≡ t → n + cond t 1 0 ≤ length s
  point-within true h = omega (arith, has_within s n 46 h)
  point-within false h = omega (arith, run_short is_digit s)

  from-within : from ≤ length s
  from-within = point-within (has_at s n 46) refl

  end-within : from + k ≤ length s
  end-within = omega (arith, from-within, run_short is_digit f, length-drop from s)

  joined : value_from 0 (digits_of s ++ digits_of f) ≡ both
  joined = value-append 0 (digits_of s) (digits_of f)

  as_parts : unsigned_of s ≡ size_of (n + k) k both (drop (from + k) s)
  unfolding unsigned_of
  as_parts = simp (run_length is_digit s, run_length is_digit f, joined, drop-drop k from s)

  first_below : first < 10 ^ n
  first_below = omega (arith, subst (λ (m : ℕ). first < (0 + 1) * 10 ^ m) (run_length is_digit s) (value-below 0 (digits_of s) (run-taken is_digit s)))

  both_below : both < 10 ^ (n + k)
  both_below =
      let long : length (digits_of s ++ digits_of f) ≡ n + k = length-append (digits_of s) (digits_of f) ∙ simp (run_length is_digit s, run_length is_digit f) in
      let below = value-below 0 (digits_of s ++ digits_of f) (all_append is_digit (digits_of s) (digits_of f) (run-taken is_digit s) (run-taken is_digit f)) in
      omega (arith, rw (long, joined) at below)

  room : length s ≤ most_bytes → (first + 1) * 10 ^ length f ≤ 10 ^ most_bytes
  room h =
      let m = length f in
      omega (arith, mul-le-mul_right (10 ^ m) first_below, pow-add 10 n m, ten-le (n + m) most_bytes (omega (arith, length-drop from s, from-within)))

-- the code's places are the definition's
start_is : (c : After-point_length) → let s = c.args.s.now in c.read_run-before.result.count + c.point_length.result ≡ fraction_at s
start_is c = rw (c.point_length.ensures, c.read_run-before.ensures.0)

second_is : (c : After-read_run-fraction) → let s = c.args.s.now in (c.read_run-fraction.result.count ≡ k s) × (c.read_run-fraction.result.value ≡ both s)
second_is c =
    let start_is : let s = c.args.s.now in c.read_run-before.result.count + c.point_length.result ≡ fraction_at s = rw (c.point_length.ensures, c.read_run-before.ensures.0) in
    let s = c.args.s.now in
    let part = rest_part s (c.read_run-before.result.count + c.point_length.result) ∙ ap (λ (n : ℕ). drop n s) start_is in (
      c.read_run-fraction.ensures.0 ∙ ap (run_of is_digit) part,
      c.read_run-fraction.ensures.1 ∙ ap (λ (l : List ℕ). value_from c.read_run-before.result.value (take (run_of is_digit l) l)) part
          ∙ ap (λ (v : ℕ). value_from v (take (k s) (f s))) c.read_run-before.ensures.1,
    )

pub read_run-before-requires : goal.read_run-before-requires
read_run-before-requires c = omega (arith, ten-le _ most_bytes c.requires)

pub overflow_add-start : goal.overflow_add-start
overflow_add-start c = omega (arith, (start_is (goal.at.overflow_add-start c).After-point_length), from-within c.args.s.now)

pub slice_bounds-read_run-count : goal.slice_bounds-read_run-count
slice_bounds-read_run-count c = omega (arith, (start_is (goal.at.slice_bounds-read_run-count c).After-point_length), from-within c.args.s.now)

pub slice_bounds-read_run-start : goal.slice_bounds-read_run-start
slice_bounds-read_run-start c = omega (arith, (start_is (goal.at.slice_bounds-read_run-start c).After-point_length), from-within c.args.s.now)

pub read_run-fraction-requires : goal.read_run-fraction-requires
read_run-fraction-requires c =
    let s = c.args.s.now in
    rw (rest_part, (start_is (goal.at.read_run-fraction-requires c).After-point_length), c.read_run-before.ensures.1) (room s c.requires)

end_is : (c : After-read_run-fraction) → let s = c.args.s.now in c.read_run-before.result.count + c.point_length.result + c.read_run-fraction.result.count ≤ length s
end_is c =
    let start_is : let s = c.args.s.now in c.read_run-before.result.count + c.point_length.result ≡ fraction_at s = rw (c.point_length.ensures, c.read_run-before.ensures.0) in
    omega (arith, start_is, (second_is c).0, end-within c.args.s.now)

pub overflow_add-end : goal.overflow_add-end
overflow_add-end c = omega (arith, (end_is (goal.at.overflow_add-end c).After-read_run-fraction))

pub overflow_add-before : goal.overflow_add-before
overflow_add-before c = omega (arith, (end_is (goal.at.overflow_add-before c).After-read_run-fraction))

pub slice_bounds-sized-count : goal.slice_bounds-sized-count
slice_bounds-sized-count c = omega (arith, (end_is (goal.at.slice_bounds-sized-count c).After-read_run-fraction))

pub slice_bounds-sized-start : goal.slice_bounds-sized-start
slice_bounds-sized-start c = omega (arith, (end_is (goal.at.slice_bounds-sized-start c).After-read_run-fraction))

pub sized-requires : goal.sized-requires
sized-requires c = rw ((second_is (goal.at.sized-requires c).After-read_run-fraction).0, (second_is (goal.at.sized-requires c).After-read_run-fraction).1, c.read_run-before.ensures.0) (both_below c.args.s.now)

pub returns : goal.returns
returns c =
    let s = c.args.s.now in
    (c.sized.ensures.0 ∙ rw (rest_part, (start_is (goal.at.returns c).After-point_length), (second_is (goal.at.returns c).After-read_run-fraction).0, (second_is (goal.at.returns c).After-read_run-fraction).1, c.read_run-before.ensures.0) (sym (as_parts s)), c.sized.ensures.1)
