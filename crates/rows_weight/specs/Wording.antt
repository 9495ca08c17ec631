-- The difference of row 5 in document 01's words ("The twelve rows").
-- Assumes nothing.
use Rattle.std.specs.Prelude.{ℕ, ◌<◌, ℤ, pos, nat_abs, ◌-ℤ◌}

-- "|given − sum| above 1.0", all in millionths
abbrev pub FarApart : ℤ → ℕ → Type 0
FarApart given sum = 1000000 < nat_abs (given -ℤ pos sum)
