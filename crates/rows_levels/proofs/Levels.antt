-- Grading by three bounds, shown once for all bounds and all tests: the level given is the highest whose bound is broken, and 0 where none is.
-- Assumes nothing.
use mathlib.Core.Path.{◌≡◌, refl}
use mathlib.Core.Bool.{Bool, true, false, cond, false≢true}
use mathlib.Core.Logic.{◌⊎◌, inl, inr}
use Prim.Native.Nat.{ℕ, ◌^◌, ◌≤◌, ◌<◌}
use native.Mathlib.Omega.{arith}
use borrow.Author.Tests.{eqb-true}
use lib.Dec.{eqb, lit<}
use lib.IntN.{ℤ}
use Rattle.rows_levels.specs.Level.{level_of, broken_at, Highest}
use Rattle.rows_levels.specs.Bounds.{bounds, bounds_at, bounds_of, judged_of, above, grade_of}
use Rattle.rows_levels.specs.declared.Bounds.{Bounds}

-- the bound of a level is broken only where it has one: it is a test that holds
level_by : (a b c : Bool) (k : ℕ) (p q r : Bool) → eqb k 4 ≡ p → eqb k 3 ≡ q → eqb k 2 ≡ r → cond p a (cond q b (cond r c false)) ≡ true → k ≤ level_of a b c
level_by true b c k true q r ep eq er e = let h = eqb-true k 4 ep in omega arith
level_by false b c k true q r ep eq er e = absurd (false≢true e)
level_by true b c k false true r ep eq er e = let h = eqb-true k 3 eq in omega arith
level_by false true c k false true r ep eq er e = let h = eqb-true k 3 eq in omega arith
level_by false false c k false true r ep eq er e = absurd (false≢true e)
level_by true b c k false false true ep eq er e = let h = eqb-true k 2 er in omega arith
level_by false true c k false false true ep eq er e = let h = eqb-true k 2 er in omega arith
level_by false false true k false false true ep eq er e = let h = eqb-true k 2 er in omega arith
level_by false false false k false false true ep eq er e = absurd (false≢true e)
level_by a b c k false false false ep eq er e = absurd (false≢true e)

broken-by : (a b c : Bool) → (level_of a b c ≡ 0) ⊎ (broken_at a b c (level_of a b c) ≡ true)
broken-by true b c = inr refl
broken-by false true c = inr refl
broken-by false false true = inr refl
broken-by false false false = inl refl

-- the level is the highest whose bound is broken, and none when none is
pub level-highest : (a b c : Bool) → Highest a b c (level_of a b c)
level-highest a b c = record {
  broken = broken-by a b c;
  highest = λ k e. level_by a b c k (eqb k 4) (eqb k 3) (eqb k 2) refl refl refl e;
}

-- so it is with the bounds of rows 6, 8 and 10, or of any row
pub grade-highest : (row : ℕ) (z : ℤ) → let y = judged_of row z in let most = bounds_of row false in Highest (above most.a y) (above most.b y) (above most.c y) (grade_of row z)
unfolding grade_of
grade-highest row z = level-highest _ _ _

-- a bound is far below what an `i64` holds
pub record SmallBounds (s : Bounds) : Type 0 where
  pub a_small : s.a < 2 ^ 63
  pub b-small : s.b < 2 ^ 63
  pub c-small : s.c < 2 ^ 63

small_by : (p q r s t : Bool) → SmallBounds (bounds_at (cond p 0 (cond q 2 (cond r 3 (cond s 4 (cond t 5 7))))))
unfolding bounds
small_by true q r s t = record { a_small = lit< tt; b-small = lit< tt; c-small = lit< tt }
small_by false true r s t = record { a_small = lit< tt; b-small = lit< tt; c-small = lit< tt }
small_by false false true s t = record { a_small = lit< tt; b-small = lit< tt; c-small = lit< tt }
small_by false false false true t = record { a_small = lit< tt; b-small = lit< tt; c-small = lit< tt }
small_by false false false false true = record { a_small = lit< tt; b-small = lit< tt; c-small = lit< tt }
small_by false false false false false = record { a_small = lit< tt; b-small = lit< tt; c-small = lit< tt }

pub bounds-small : (row : ℕ) → SmallBounds (bounds_of row false)
bounds-small row = small_by (eqb row 4) (eqb row 6) (eqb row 8) (eqb row 10) (eqb row 12)
