-- `number_decimal::read_digits` meets its contract: the run is the whole text where all are digits.
-- Assumes nothing.
use Rattle.std.proofs.lemmas.Bool.Decides.{nat_tests}
use Rattle.std.specs.Prelude.{Some}
use native.Mathlib.Omega.{arith}
use mathlib.Core.Path.{◌≡◌, sym, ap, ◌∙◌}
use mathlib.Core.Bool.{Bool}
use mathlib.Core.List.{List}
use Prim.Native.Nat.{ℕ, ◌≤◌}
use borrow.Author.Tests.{le-leb, eq-eqb, ne_eqb}
use lib.Dec.{eqb}
use lib.ListN.{length}
use lib.Seq.{take_all}
use Rattle.text.specs.Run.{run_of, all, is_digit}
use Rattle.text.proofs.Runs.{run-all}
use Rattle.number_decimal.specs.Digits.{value_from}
use Rattle.number_decimal.specs.Reading.{whole_of}
use Rattle.number_decimal.proofs.Values.{ten-le}
use Rattle.number_decimal.proofs.read_digits.Goals as goal

-- whether all are digits, by the length of the run
all-by : (s : List ℕ) (n : ℕ) (b : Bool) → n ≡ run_of is_digit s → eqb n (length s) ≡ b → all is_digit s ≡ b
all-by s n b e q = sym (run-all is_digit s) ∙ ap (λ (k : ℕ). eqb k (length s)) (sym e) ∙ q

pub read_run-digits-requires : goal.read_run-digits-requires
read_run-digits-requires c = omega (arith, ten-le _ 9 c.if-s-gt-MOST_DIGITS.false)

pub returns-then-digits-s : goal.returns-then-digits-s
unfolding whole_of
returns-then-digits-s c =
    let s = c.args.s.now in
    let every = all-by s _ _ c.read_run-digits.ensures.0 (eq-eqb _ _ c.if-digits-s.true) in
    let long : length s ≤ run_of is_digit s = omega (arith, c.read_run-digits.ensures.0, c.if-digits-s.true) in
    let some : 1 ≤ length s = grind (arith, nat_tests) in
    ap Some (c.read_run-digits.ensures.1 ∙ ap (value_from 0) (take_all (run_of is_digit s) s long)) ∙ simp (le-leb _ _ some, le-leb _ _ c.if-s-gt-MOST_DIGITS.false, every)

pub returns-else-digits-s : goal.returns-else-digits-s
unfolding whole_of
returns-else-digits-s c =
    let every = all-by c.args.s.now _ _ c.read_run-digits.ensures.0 (ne_eqb _ _ c.if-digits-s.false) in
    let some : 1 ≤ length c.args.s.now = grind (arith, nat_tests) in
    simp (le-leb _ _ some, le-leb _ _ c.if-s-gt-MOST_DIGITS.false, every)
