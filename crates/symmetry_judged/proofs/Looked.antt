-- The loop over the first rows of pairs: what a row that comes adds, and that all pairs are few.
-- Assumes nothing.
use mathlib.Core.Path.{◌≡◌, sym, ap, ◌∙◌}
use mathlib.Core.Bool.{Bool, true, false, cond}
use mathlib.Core.List.{List, [], ◌∷◌}
use Prim.Native.Nat.{ℕ, suc, ◌+◌, ◌*◌, ◌/◌, ◌≤◌, ◌<◌}
use native.Mathlib.Nat.{suc-mul, mul-le-mul}
use native.Mathlib.Omega.{arith}
use borrow.Author.Tests.{eq-eqb, ne_eqb}
use lib.Dec.{eqb}
use lib.IntN.{ℤ}
use lib.ListN.{length}
use Rattle.std.proofs.Common.{Bor}
use Rattle.std.specs.Prelude.{Some}
use Rattle.std.specs.declared.slice.ChunksExact.{ChunksExact}
use Rattle.std.specs.Slice.Iter.{chunks_exact_rest, chunks_exact_size, chunks_exact_steps}
use Rattle.text.specs.Run.{run_of}
use Rattle.text.proofs.Runs.{run_short}
use Rattle.symmetry_operators.specs.Operator.{Row}
use Rattle.symmetry_operators.specs.Check.{row_from, operator_rows}
use Rattle.symmetry_operators.specs.Residues.{residues, closes_code, run_pairs}
use Rattle.symmetry_operators.proofs.Cut.{length_cut}
use Rattle.symmetry_operators.proofs.Chunks.{one-comes}

pub few : (i n : ℕ) → i ≤ 192 → n ≤ 192 → i * n ≤ 36864
few i n h k = mul-le-mul h k

module _ (codes : List ℕ) (s t : ChunksExact ℤ) (x : Bor (List ℤ)) (z : chunks_exact_size s ≡ 12) (h : chunks_exact_steps s (Some x) t)
    {found : ℕ} (e : found ≡ run_of (closes_code codes (residues (row_from x.now))) codes) where
  abbrev n : ℕ
  n = length codes

  abbrev left : ℕ
  left = run_pairs codes (operator_rows (chunks_exact_rest t))

  step : run_pairs codes (operator_rows (chunks_exact_rest s)) ≡ cond (eqb found n) (n + left) found
  step = ap (run_pairs codes) (one-comes s t x z h) ∙ ap (λ (f : ℕ). cond (eqb f n) (n + left) f) (sym e)

  -- the first row whose products are not all there
  pub looked-fails : found < n → run_pairs codes (operator_rows (chunks_exact_rest s)) ≡ found
  looked-fails f = step ∙ ap (λ (t : Bool). cond t (n + left) found) (ne_eqb found n (λ w. omega arith))

  -- a row whose products are all there
  pub looked-more : found ≡ n → run_pairs codes (operator_rows (chunks_exact_rest s)) ≡ n + left
  looked-more f = step ∙ ap (λ (t : Bool). cond t (n + left) found) (eq-eqb found n f)

-- how many pairs there are at most
run-most : (codes : List ℕ) (l : List (Row ℤ)) → run_pairs codes l ≤ length l * length codes
run-most codes [] = omega arith
run-most codes (r ∷ l) = go (run_of (closes_code codes (residues r)) codes) (run_short _ codes) (run-most codes l)
  where
    go : (found : ℕ) → found ≤ length codes → run_pairs codes l ≤ length l * length codes
        → cond (eqb found (length codes)) (length codes + run_pairs codes l) found ≤ suc (length l) * length codes
    go found h ih = let e = suc-mul (length l) (length codes) in by (eqb found (length codes)) e
      where
        by : (t : Bool) → suc (length l) * length codes ≡ length l * length codes + length codes
            → cond t (length codes + run_pairs codes l) found ≤ suc (length l) * length codes
        by true e = omega arith
        by false e = omega arith

pub found_few : (codes : List ℕ) (s : List ℤ) {found : ℕ} → length codes ≡ length s / 12 → found ≡ run_pairs codes (operator_rows s) → found ≤ length codes * length codes
found_few codes s size e =
    let h = run-most codes (operator_rows s) in
    let k : length (operator_rows s) * length codes ≡ length codes * length codes = ap (λ (m : ℕ). m * length codes)
    (length_cut row_from (length s / 12) s ∙ sym size) in
    omega arith
