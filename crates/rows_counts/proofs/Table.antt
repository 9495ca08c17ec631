-- The table of rules.
-- Assumes nothing.
use Rattle.std.specs.Prelude.{None}
use mathlib.Core.Path.{◌≡◌, refl}
use mathlib.Core.Bool.{Bool, true, false}
use Prim.Native.Nat.{ℕ, ◌≤◌}
use lib.Dec.{leb}
use borrow.Author.Tests.{leb-true}
use Rattle.rows_counts.specs.Counts.{rule_of}

-- a row that is not of the table has no rule
pub none : (row : ℕ) → (13 ≤ row → row ≤ 24 → ⊥) → None ≡ rule_of row
unfolding rule_of
none row out = by (leb 13 row) (leb row 24) refl refl
  where
    by : (a b : Bool) → leb 13 row ≡ a → leb row 24 ≡ b → None ≡ rule_of row
    by false b e f = simp e
    by true false e f = simp (e, f)
    by true true e f = absurd (out (leb-true 13 row e) (leb-true row 24 f))
