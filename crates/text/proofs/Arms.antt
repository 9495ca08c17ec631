-- A `match` on numbers that follow each other: where none of its arms was taken.
-- Assumes nothing.
use mathlib.Core.Path.{◌≡◌}
use Prim.Native.Nat.{ℕ, zero, suc, ◌+◌, ◌≤◌}
use native.Mathlib.Omega.{arith}

-- x is none of the n numbers from k on
abbrev pub Others : ℕ → ℕ → ℕ → Type 0
Others x k zero = Unit {0}
Others x k (suc n) = Others x k n × (x ≡ k + n → ⊥)

-- then it is below or above them all
pub past : (x k n : ℕ) → k ≤ x → Others x k n → k + n ≤ x
past x k zero from none = omega arith
past x k (suc n) from none = let h = past x k n from none.0 in let other = none.1 in omega arith
