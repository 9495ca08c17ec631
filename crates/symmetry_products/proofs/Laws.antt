-- The determinant, from what each step gives.
-- Assumes nothing.
use mathlib.Core.Path.{◌≡◌, sym, ap, ◌∙◌}
use mathlib.Core.Bool.{Bool, ◌||◌}
use mathlib.Core.List.{List}
use Prim.Native.Nat.{ℕ, ◌+◌, ◌*◌, ◌%◌}
use native.Mathlib.Nat.{mul_assoc}
use lib.Dec.{eqb}
use lib.ListN.{get_or}
use Rattle.symmetry_operators.specs.Residues.{minor_n, det_n, turns_n, row_from_n}
use Rattle.symmetry_operators.proofs.Modulo.{strip-right}

module _ (r : List ℕ) where
  abbrev at : ℕ → ℕ
  at k = get_or r k 0

  expand : (m n o : ℕ) → (at 0 * (m % 12288) + 12287 * (at 1 * (n % 12288)) + at 2 * (o % 12288)) % 12288 ≡ (at 0 * m + 12287 * (at 1 * n) + at 2 * o)
      % 12288
  expand m n o = rw (sym (mul_assoc 12287 (at 1) (n % 12288)), sym (mul_assoc 12287 (at 1) n)) (strip-right m n o (at 0) (12287 * at 1) (at 2))

  pub unit_law : {m n o d : ℕ} {t : Bool} → m ≡ minor_n (at 4) (at 5) (at 7) (at 8) % 12288 → n ≡ minor_n (at 3) (at 5) (at 6) (at 8) % 12288
      → o ≡ minor_n (at 3) (at 4) (at 6) (at 7) % 12288 → d ≡ (at 0 * m + 12287 * (at 1 * n) + at 2 * o) % 12288 → t ≡ (eqb d 1 || eqb d 12287)
      → t ≡ turns_n (row_from_n r)
  unfolding turns_n row_from_n
  unit_law {m} {n} {o} {d} e f g h i =
      let det : d ≡ det_n (row_from_n r) % 12288
      = h ∙ (λ j. (at 0 * e j + 12287 * (at 1 * f j) + at 2 * g j) % 12288)
      ∙ expand (minor_n (at 4) (at 5) (at 7) (at 8)) (minor_n (at 3) (at 5) (at 6) (at 8)) (minor_n (at 3) (at 4) (at 6) (at 7)) in
      i ∙ ap (λ (n : ℕ). eqb n 1 || eqb n 12287) det
