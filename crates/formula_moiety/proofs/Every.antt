-- Laws of `every_below`.
-- Assumes nothing.
use Prim.Native.Nat.{ℕ, zero, suc, ◌+◌, ◌<◌}
use mathlib.Core.Path.{◌≡◌, refl, sym, ap, ◌∙◌}
use mathlib.Core.Bool.{Bool, true, false, ◌&&◌, and-false, false≢true}
use native.Mathlib.Omega.{arith}
use native.Mathlib.Numerals.{add-one}
use borrow.Author.Tests.{eqb-true, eqb-false}
use lib.Dec.{eqb}
use Rattle.text.proofs.Bools.{and_both}
use Rattle.formula_moiety.specs.Compare.{every_below}

pub every_more : (n : ℕ) (p : ℕ → Bool) → every_below n p ≡ true → p n ≡ true → every_below (n + 1) p ≡ true
unfolding every_below
every_more n p h e = rw (add-one n, h, e)

pub every-fails : (n i : ℕ) (p : ℕ → Bool) → i < n → p i ≡ false → every_below n p ≡ false
unfolding every_below
every-fails zero i p l e = absurd (omega arith)
every-fails (suc n) i p l e = go (λ h. every-fails n i p h e) (eqb i n) refl
  where
    go : (i < n → every_below n p ≡ false) → (t : Bool) → eqb i n ≡ t → (every_below n p && p n) ≡ false
    go ih true q = ap (λ (x : Bool). every_below n p && x) (ap p (sym (eqb-true i n q)) ∙ e) ∙ and-false (every_below n p)
    go ih false q = let ne = eqb-false i n q in let l₁ : i < n = omega arith in rw (ih l₁)

pub every-each : (n i : ℕ) (p : ℕ → Bool) → every_below n p ≡ true → i < n → p i ≡ true
unfolding every_below
every-each zero i p h l = absurd (omega arith)
every-each (suc n) i p h l = let k = and_both (every_below n p) (p n) h in go (λ l₁. every-each n i p k.0 l₁) k.1 (eqb i n) refl
  where
    go : (i < n → p i ≡ true) → p n ≡ true → (t : Bool) → eqb i n ≡ t → p i ≡ true
    go ih e true q = ap p (eqb-true i n q) ∙ e
    go ih e false q = let ne = eqb-false i n q in ih (omega arith)

pub every-same : (n : ℕ) (p q : ℕ → Bool) → ((k : ℕ) → p k ≡ q k) → every_below n p ≡ every_below n q
unfolding every_below
every-same zero p q h = refl
every-same (suc n) p q h = ap (λ (x : Bool). x && p n) (every-same n p q h) ∙ ap (λ (x : Bool). every_below n q && x) (h n)

pub every-all : (n : ℕ) (p : ℕ → Bool) → ((k : ℕ) → k < n → p k ≡ true) → every_below n p ≡ true
unfolding every_below
every-all zero p h = refl
every-all (suc n) p h = rw (every-all n p (λ k l. h k (omega arith)), h n (omega arith))

-- where not each is of the kind, one is not
pub record Fails (n : ℕ) (p : ℕ → Bool) : Type 0 where
  pub at : ℕ
  pub within : at < n
  pub fails : p at ≡ false

pub every_some : (n : ℕ) (p : ℕ → Bool) → every_below n p ≡ false → Fails n p
unfolding every_below
every_some zero p e = absurd (false≢true (sym e))
every_some (suc n) p e = go (every_some n p) (every_below n p) refl e
  where
    go : (every_below n p ≡ false → Fails n p) → (b : Bool) → every_below n p ≡ b → (b && p n) ≡ false → Fails (suc n) p
    go ih true q f = record { at = n; within = omega arith; fails = f }
    go ih false q f = let h = ih q in record { at = h.at; within = omega (arith, h.within); fails = h.fails }
