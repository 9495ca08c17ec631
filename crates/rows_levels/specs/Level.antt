-- Levels by three bounds (document 01, "The twelve rows": "Level 0 none, 1 General, 2 C, 3 B, 4 A").
-- "The grading by three bounds is shown once for all bounds": that of row 4 (below or above), of 6, 8 and 10 (above) and of 12 (at least) differ only in
-- the test of each bound.
-- Assumes nothing.
use Rattle.std.specs.Prelude.{ℕ, ◌≤◌, ◌≡◌, Bool, true, false, cond, ◌⊎◌, eqb}

-- the level for three bounds, of A, B and C, each broken or not
abbrev pub level_of : Bool → Bool → Bool → ℕ
level_of a b c = cond a 4 (cond b 3 (cond c 2 0))

-- whether the bound of a level is broken: 4 has the first, 3 the second, 2 the third
abbrev pub broken_at : Bool → Bool → Bool → ℕ → Bool
broken_at a b c l = cond (eqb l 4) a (cond (eqb l 3) b (cond (eqb l 2) c false))

-- l is the level for those bounds: the highest whose bound is broken, and none when none is
pub record Highest (a b c : Bool) (l : ℕ) : Type 0 where
  -- its bound is broken, or it is 0
  pub broken : (l ≡ 0) ⊎ (broken_at a b c l ≡ true)
  -- no level above it has a broken bound
  pub highest : (k : ℕ) → broken_at a b c k ≡ true → k ≤ l
