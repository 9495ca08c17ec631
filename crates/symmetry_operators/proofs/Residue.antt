-- Whole numbers modulo 12288: sums, negatives and multiples by a factor. `Is z n`: n is z modulo 12288.
-- Assumes nothing.
use mathlib.Core.Path.{◌≡◌, refl, sym, ap, ◌∙◌}
use mathlib.Core.Bool.{Bool, true, false, false≢true}
use Prim.Native.Nat.{ℕ, zero, suc, ◌+◌, ◌*◌, ◌-◌, ◌/◌, ◌%◌, ◌<◌}
use native.Mathlib.Nat.{add-mul-mod_self_left, mod-eq_of_lt, add_comm, one-mul}
use native.Mathlib.Omega.{arith}
use borrow.Author.Tests.{ltb-true, ltb-false, leb-true}
use lib.Dec.{ltb, leb}
use lib.IntN.{ℤ, pos, negsuc, neg_ℤ, sub_ℕ, ◌+ℤ◌, ◌-ℤ◌, ◌*ℤ◌}
use Rattle.symmetry_operators.specs.Operator.{residue, is_factor, is_translation}
use Rattle.symmetry_operators.specs.Residues.{reduced, scaled}
use Rattle.text.proofs.Bools.{and_both}

pub record Is (z : ℤ) (n : ℕ) : Type 0 where
  pub is : reduced z ≡ n % 12288

pub reduced-small : (z : ℤ) → reduced z < 12288
reduced-small (pos n) = omega arith
reduced-small (negsuc n) = omega arith

reduced-sub : (a b : ℕ) → reduced (sub_ℕ a b) ≡ (a + 12287 * b) % 12288
reduced-sub a b = go (ltb a b) refl
  where
    go : (t : Bool) → ltb a b ≡ t → reduced (sub_ℕ a b) ≡ (a + 12287 * b) % 12288
    go true e = let h = ltb-true a b e in rw e (omega arith)
    go false e = let h = ltb-false a b e in rw e (omega arith)

-- two numbers that differ by multiples of 12288 leave the same rest
pub mod-by : (a b p q : ℕ) → a + 12288 * p ≡ b + 12288 * q → a % 12288 ≡ b % 12288
mod-by a b p q e = sym (add-mul-mod_self_left a 12288 p) ∙ ap (λ (n : ℕ). n % 12288) e ∙ add-mul-mod_self_left b 12288 q

rest : (n : ℕ) → n % 12288 < 12288
rest n = omega arith

pub reduced-neg : (n : ℕ) → 12287 - n % 12288 ≡ (12287 * suc n) % 12288
reduced-neg n = sym (mod-eq_of_lt (omega (arith, rest n)))
    ∙ mod-by (12287 - n % 12288) (12287 * suc n) (12287 * (n / 12288) + n % 12288) 0 (omega (arith, rest n))

pub congruent : (a b m n : ℕ) → a % 12288 ≡ m % 12288 → b % 12288 ≡ n % 12288 → (a + b) % 12288 ≡ (m + n) % 12288
congruent a b m n h k = omega arith

pub multiple : (a m : ℕ) → a % 12288 ≡ m % 12288 → (12287 * a) % 12288 ≡ (12287 * m) % 12288
multiple a m h = mod-by (12287 * a) (12287 * m) (12287 * (m / 12288)) (12287 * (a / 12288)) (omega arith)

pub is-add : {y z : ℤ} {m n : ℕ} → Is y m → Is z n → Is (y +ℤ z) (m + n)
is-add {y = pos a} {z = pos b} {m} {n} h k = record { is = congruent a b m n h.is k.is }
is-add {y = pos a} {z = negsuc b} {m} {n} h k = record
    { is = reduced-sub a (suc b) ∙ congruent a (12287 * suc b) m n h.is (sym (reduced-neg b) ∙ k.is) }
is-add {y = negsuc a} {z = pos b} {m} {n} h k = record
    { is = reduced-sub b (suc a) ∙ congruent b (12287 * suc a) n m k.is (sym (reduced-neg a) ∙ h.is) ∙ ap (λ (i : ℕ). i % 12288) (add_comm n m) }
is-add {y = negsuc a} {z = negsuc b} {m} {n} h k = record {
  is = reduced-neg (suc (a + b)) ∙ ap (λ (i : ℕ). i % 12288) (omega arith)
      ∙ congruent (12287 * suc a) (12287 * suc b) m n (sym (reduced-neg a) ∙ h.is) (sym (reduced-neg b) ∙ k.is);
}

neg_is : (m n : ℕ) → m % 12288 ≡ n % 12288 → reduced (neg_ℤ (pos m)) ≡ (12287 * n) % 12288
neg_is zero n e = multiple 0 n e
neg_is (suc m) n e = reduced-neg m ∙ multiple (suc m) n e

pub is-neg : {z : ℤ} {n : ℕ} → Is z n → Is (neg_ℤ z) (12287 * n)
is-neg {z = pos a} {n} h = record { is = neg_is a n h.is }
is-neg {z = negsuc a} {n} h = record
    { is = mod-by (suc a) (12287 * (12287 * suc a)) (12286 * suc a) 0 (omega arith) ∙ multiple (12287 * suc a) n (sym (reduced-neg a) ∙ h.is) }

pub is-minus : {y z : ℤ} {m n : ℕ} → Is y m → Is z n → Is (y -ℤ z) (m + 12287 * n)
is-minus h k = is-add h (is-neg k)

pub is-own : (z : ℤ) → Is z (reduced z)
is-own z = let h = reduced-small z in record { is = omega arith }

pub data Factor : ℤ → Type 0 where
  minus : Factor (negsuc 0)
  nought : Factor (pos 0)
  one : Factor (pos 1)

pub is-times : {a : ℤ} → Factor a → {z : ℤ} {n : ℕ} → Is z n → Is (a *ℤ z) (reduced a * n)
is-times minus {z = pos b} {n} h = record { is = neg_is (1 * b) n (ap (λ (i : ℕ). i % 12288) (one-mul b) ∙ h.is) }
is-times minus {z = negsuc b} {n} h = record { is = ap (λ (i : ℕ). i % 12288) (one-mul (suc b)) ∙ (is-neg h).is }
is-times nought {z = pos b} {n} h = record { is = omega arith }
is-times nought {z = negsuc b} {n} h = record { is = neg_is (0 * suc b) 0 (omega arith) ∙ omega arith }
is-times one {z = pos b} {n} h = record { is = omega arith }
is-times one {z = negsuc b} {n} h = record { is = neg_is (1 * suc b) (suc b) (omega arith) ∙ sym (reduced-neg b) ∙ h.is ∙ omega arith }

pub factor-of : (z : ℤ) → is_factor z ≡ true → Factor z
factor-of (pos zero) e = nought
factor-of (pos (suc zero)) e = one
factor-of (pos (suc (suc n))) e = let h = leb-true (suc (suc n)) 1 e in absurd (omega arith)
factor-of (negsuc zero) e = minus
factor-of (negsuc (suc n)) e = let h = leb-true (suc n) 0 (and_both (leb (suc n) 0) true e).0 in absurd (omega arith)

-- factors, and translations, are known by their residues
pub factor-same : {y z : ℤ} → Factor y → Factor z → reduced y ≡ reduced z → y ≡ z
factor-same minus minus e = refl
factor-same minus nought e = absurd (omega arith)
factor-same minus one e = absurd (omega arith)
factor-same nought minus e = absurd (omega arith)
factor-same nought nought e = refl
factor-same nought one e = absurd (omega arith)
factor-same one minus e = absurd (omega arith)
factor-same one nought e = absurd (omega arith)
factor-same one one e = refl

pub translation-of : (z : ℤ) → is_translation z ≡ true → z ≡ pos (residue z)
translation-of (pos n) e = let h = leb-true n 23 (and_both (leb 0 n) (leb n 23) e).1 in ap pos (omega arith)
translation-of (negsuc n) e = absurd (false≢true e)

-- ---- translations: modulo 24, and 512 times as much modulo 12288
scale : (n : ℕ) → (512 * n) % 12288 ≡ 512 * (n % 24)
scale n = omega arith

residue-reduced : (z : ℤ) → residue z ≡ reduced z % 24
residue-reduced (pos n) = omega arith
residue-reduced (negsuc n) = omega arith

pub scaled-residue : (z : ℤ) → scaled z ≡ 512 * residue z
scaled-residue z = scale (reduced z) ∙ ap (λ (n : ℕ). 512 * n) (sym (residue-reduced z))

pub residue-below : (z : ℤ) → residue z < 24
residue-below (pos n) = omega arith
residue-below (negsuc n) = omega arith

-- what is taken modulo 24 has the same scaled number
pub scaled-again : (z : ℤ) → scaled (pos (residue z)) ≡ scaled z
scaled-again z = let h = residue-below z in scaled-residue (pos (residue z)) ∙ ap (λ (n : ℕ). 512 * n) (mod-eq_of_lt h) ∙ sym (scaled-residue z)

pub scaled_small : (z : ℤ) → scaled z < 12288
scaled_small z = omega arith

pub scaled-same : (y z : ℤ) → scaled y ≡ scaled z → residue y ≡ residue z
scaled-same y z e = let h = scaled-residue y in let k = scaled-residue z in omega arith

pub scaled-is : {z : ℤ} {n : ℕ} → Is z n → scaled z ≡ (512 * n) % 12288
scaled-is {z} {n} h = mod-by (512 * reduced z) (512 * n) (512 * (n / 12288)) 0 (let e = h.is in omega arith)
