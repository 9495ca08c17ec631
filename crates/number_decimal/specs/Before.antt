-- A number as it was before document 02, No. 4: "an optional point with at least one digit on each side" (document 01, "A line, a number"), and all
-- else as in `Grammar`. `AsBefore` (proofs) shows that each of them is a number still, and the same one.
-- Assumes nothing.
use Rattle.std.specs.Prelude.{ℕ, ◌≤◌, List, [], ◌∷◌, length, ℤ}
use Rattle.number_decimal.specs.Grammar.{NumberBy}

pub data PointBefore : List ℕ → List ℕ → List ℕ → Type 0 where
  whole : (before : List ℕ) → 1 ≤ length before → PointBefore before [] []
  each_side : (before fraction : List ℕ) → 1 ≤ length before → 1 ≤ length fraction → PointBefore before fraction (46 ∷ fraction)

abbrev pub NumberBefore : List ℕ → ℤ → Type 0
NumberBefore = NumberBy PointBefore
