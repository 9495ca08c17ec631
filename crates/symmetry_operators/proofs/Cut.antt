-- How many rows of twelve are cut.
-- Assumes nothing.
use mathlib.Core.Path.{◌≡◌, refl, ap}
use mathlib.Core.List.{List}
use Prim.Native.Nat.{ℕ, zero, suc}
use lib.ListN.{length, drop}
use Rattle.symmetry_operators.specs.Lists.{in_twelves}

module _ {A B : Type 0} (row : List A → B) where
  pub length_cut : (n : ℕ) (l : List A) → length (in_twelves row n l) ≡ n
  length_cut zero l = refl
  length_cut (suc n) l = ap suc (length_cut n (drop 12 l))
