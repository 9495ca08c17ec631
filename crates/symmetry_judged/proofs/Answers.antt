-- The answer of the check where all determinants are 1 or −1.
-- Assumes nothing.
use mathlib.Core.Path.{◌≡◌, ap, ◌∙◌}
use mathlib.Core.Bool.{true}
use mathlib.Core.List.{List}
use Prim.Native.Nat.{ℕ}
use lib.IntN.{ℤ}
use lib.ListN.{length, length-map}
use Rattle.text.specs.Run.{all}
use Rattle.symmetry_operators.specs.Check.{Outcome, row_from, rows_from}
use Rattle.symmetry_operators.specs.Residues.{code, turning, closed_n, codes_of, judged_n}
use Rattle.symmetry_operators.proofs.Cut.{length_cut}

module _ (n : ℕ) (l : List ℤ) where
  pub units : all turning (rows_from n l) ≡ true → {r : Outcome} (codes : List ℕ) → r ≡ closed_n (length codes) l codes → codes ≡ codes_of n l
      → r ≡ judged_n n l
  unfolding judged_n
  units e codes f g =
      let size : length (codes_of n l) ≡ n = length-map (rows_from n l) code ∙ length_cut row_from n l in
      f ∙ ap (λ (m : List ℕ). closed_n (length m) l m) g ∙ ap (λ (m : ℕ). closed_n m l (codes_of n l)) size ∙ rw e
