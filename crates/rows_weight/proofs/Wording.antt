-- The test of row 5 says what document 01's words say: the absolute value of the difference is above 1.0.
-- Assumes nothing.
use mathlib.Core.Path.{◌≡◌, refl}
use mathlib.Core.Bool.{Bool, true, false, cond, or-true}
use mathlib.Core.Logic.{◌⊎◌, inl, inr, ⊎_elim}
use Prim.Native.Nat.{ℕ, zero, suc, ◌+◌, ◌-◌, ◌≤◌, ◌<◌}
use native.Mathlib.Omega.{arith}
use borrow.Author.Tests.{ltb-true, ltb-false, lt-ltb}
use lib.Dec.{ltb}
use lib.IntN.{ℤ, pos, negsuc, nat_abs, ◌-ℤ◌}
use Rattle.text.proofs.Bools.{or-either}
use Rattle.rows_weight.specs.WeightRows.{far_apart}
use Rattle.rows_weight.specs.Wording.{FarApart}

-- how far n is, of two numbers
Distance : ℕ → ℕ → ℕ → Type 0
Distance a b n = ((a < b) × (n + a ≡ b)) ⊎ ((b ≤ a) × (n + b ≡ a))

by_order : (a b : ℕ) (t : Bool) → ltb a b ≡ t → Distance a b (nat_abs (cond t (negsuc (b - suc a)) (pos (a - b))))
unfolding Distance
by_order a b true e = let l = ltb-true a b e in inl (l, omega arith)
by_order a b false e = let l = ltb-false a b e in inr (l, omega arith)

distance : (a b : ℕ) → Distance a b (nat_abs (pos a -ℤ pos b))
unfolding Distance
distance a zero = inr (omega arith, omega arith)
distance a (suc b) = by_order a (suc b) (ltb a (suc b)) refl

-- a weight below zero
distance-below : (a b : ℕ) → nat_abs (negsuc a -ℤ pos b) ≡ suc a + b
distance-below a zero = simp (lt-ltb 0 (suc a) (omega arith)) (omega arith)
distance-below a (suc b) = omega arith

far-by : (a b n : ℕ) → Distance a b n → (b + 1000000 < a) ⊎ (a + 1000000 < b) → 1000000 < n
unfolding Distance
far-by a b n (inl h) (inl l) = let m = h.0 in omega arith
far-by a b n (inl h) (inr l) = let m = h.1 in omega arith
far-by a b n (inr h) (inl l) = let m = h.1 in omega arith
far-by a b n (inr h) (inr l) = let m = h.0 in omega arith

far_from : (a b n : ℕ) → Distance a b n → 1000000 < n → (b + 1000000 < a) ⊎ (a + 1000000 < b)
unfolding Distance
far_from a b n (inl h) l = let m = h.1 in inr (omega arith)
far_from a b n (inr h) l = let m = h.1 in inl (omega arith)

-- weights that the test finds far apart are
pub far-is : (given : ℤ) (sum : ℕ) → far_apart given sum ≡ true → FarApart given sum
unfolding far_apart
far-is (pos a) b e =
    far-by a b (nat_abs (pos a -ℤ pos b)) (distance a b)
    (⊎_elim (λ p. inl (ltb-true (b + 1000000) a p)) (λ q. inr (ltb-true (a + 1000000) b q)) (or-either (ltb (b + 1000000) a) (ltb (a + 1000000) b) e))
far-is (negsuc a) b e = let l = ltb-true 1000000 (suc a + b) e in let d = distance-below a b in omega arith

-- the test finds all weights that are far apart
pub far-taken : (given : ℤ) (sum : ℕ) → FarApart given sum → far_apart given sum ≡ true
unfolding far_apart
far-taken (pos a) b h =
    ⊎_elim (λ p. simp (lt-ltb (b + 1000000) a p)) (λ q. simp (lt-ltb (a + 1000000) b q) (or-true (ltb (b + 1000000) a)))
    (far_from a b (nat_abs (pos a -ℤ pos b)) (distance a b) h)
far-taken (negsuc a) b h = let d = distance-below a b in lt-ltb 1000000 (suc a + b) (omega arith)
