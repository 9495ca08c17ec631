-- How two numbers stand, by what was read of them.
-- Assumes nothing.
use Rattle.std.specs.Prelude.{Option, Some, None}
use mathlib.Core.Path.{◌≡◌, ap, ◌∙◌}
use mathlib.Core.List.{List}
use Prim.Native.Nat.{ℕ}
use lib.IntN.{ℤ}
use Rattle.std.specs.Ordering.{int_cmp}
use Rattle.number_decimal.specs.Reading.{reading_of}
use Rattle.rows_counts.specs.Counts.{order_by, order_of}

module _ (v w : List ℕ) where
  pub first-missing : reading_of v ≡ None → order_of v w ≡ None
  unfolding order_of
  first-missing e = ap (λ (r : Option ℤ). order_by r (reading_of w)) e

  pub second-missing : (x : ℤ) → reading_of v ≡ Some x → reading_of w ≡ None → order_of v w ≡ None
  unfolding order_of
  second-missing x e f = ap (λ (r : Option ℤ). order_by r (reading_of w)) e ∙ ap (order_by (Some x)) f

  pub both-known : (x y : ℤ) → reading_of v ≡ Some x → reading_of w ≡ Some y → order_of v w ≡ Some (int_cmp x y)
  unfolding order_of
  both-known x y e f = ap (λ (r : Option ℤ). order_by r (reading_of w)) e ∙ ap (order_by (Some x)) f
