-- What the first number that passes a test is, and that there is one or none.
-- Assumes nothing.
use Rattle.std.specs.Prelude.{Result, Ok, Err}
use Prim.Native.Nat.{ℕ, zero, suc, ◌+◌, ◌≤◌, ◌<◌}
use mathlib.Core.Path.{◌≡◌, refl, sym, ap, ◌∙◌}
use mathlib.Core.Bool.{Bool, true, false, cond}
use mathlib.Core.Logic.{◌⊎◌, inl, inr}
use native.Mathlib.Omega.{arith}
use borrow.Author.Tests.{eqb-true, eqb-false}
use lib.Dec.{eqb}
use Rattle.hydrogen_answers.specs.declared.Refusal.{Refusal}
use Rattle.hydrogen_answers.specs.declared.Refusal.TheVariants.{NoneRight}
use Rattle.hydrogen_helper.specs.Helper.{first_from}

pub count-not : {n : ℕ} → Ok n ≡ Err NoneRight → ⊥
count-not e = let z : ◌≡◌ {A = ℕ} 0 1 = cc in omega arith

same_count : {m n : ℕ} → ◌≡◌ {A = Result ℕ Refusal} (Ok m) (Ok n) → m ≡ n
same_count e = cc

-- the number n passes the test, and none before it from i on
pub record Firstly (p : ℕ → Bool) (i n : ℕ) : Type 0 where
  pub passes : p n ≡ true
  pub from : i ≤ n
  pub before : (j : ℕ) → i ≤ j → j < n → p j ≡ false

-- a number is given
pub record Given (r : Result ℕ Refusal) : Type 0 where
  pub count : ℕ
  pub is : r ≡ Ok count

module _ (p : ℕ → Bool) where
  pub first_passes : (i k n : ℕ) → first_from p i k ≡ Ok n → Firstly p i n
  unfolding first_from
  first_passes i zero n e = absurd (count-not (sym e))
  first_passes i (suc k) n e = go (first_passes (suc i) k n) (p i) refl e
    where
      go : (first_from p (suc i) k ≡ Ok n → Firstly p (suc i) n) → (x : Bool) → p i ≡ x → cond x (Ok i) (first_from p (suc i) k) ≡ Ok n → Firstly p i n
      go ih true q e = let z = same_count e in record { passes = ap p (sym z) ∙ q; from = omega arith; before = λ j a b. absurd (omega arith) }
      go ih false q e = let h = ih e in record { passes = h.passes; from = omega (arith, h.from); before = λ j a b. by h j a b (eqb i j) refl }
        where
          by : Firstly p (suc i) n → (j : ℕ) → i ≤ j → j < n → (t : Bool) → eqb i j ≡ t → p j ≡ false
          by h j a b true s = ap p (sym (eqb-true i j s)) ∙ q
          by h j a b false s = let d = eqb-false i j s in h.before j (omega arith) b

  pub first-fails : (i k : ℕ) → first_from p i k ≡ Err NoneRight → (j : ℕ) → i ≤ j → j < i + k → p j ≡ false
  unfolding first_from
  first-fails i zero e j a b = absurd (omega arith)
  first-fails i (suc k) e j a b = go (first-fails (suc i) k) (p i) refl e
    where
      go : (first_from p (suc i) k ≡ Err NoneRight → (j : ℕ) → suc i ≤ j → j < suc i + k → p j ≡ false) → (x : Bool) → p i ≡ x → cond x (Ok i) (first_from p (suc i) k) ≡ Err NoneRight → p j ≡ false
      go ih true q e = absurd (count-not e)
      go ih false q e = by (eqb i j) refl
        where
          by : (t : Bool) → eqb i j ≡ t → p j ≡ false
          by true s = ap p (sym (eqb-true i j s)) ∙ q
          by false s = let d = eqb-false i j s in ih e j (omega arith) (omega arith)

  pub first_either : (i k : ℕ) → Given (first_from p i k) ⊎ (first_from p i k ≡ Err NoneRight)
  unfolding first_from
  first_either i zero = inr refl
  first_either i (suc k) = go (first_either (suc i) k) (p i)
    where
      go : Given (first_from p (suc i) k) ⊎ (first_from p (suc i) k ≡ Err NoneRight) → (x : Bool) → Given (cond x (Ok i) (first_from p (suc i) k)) ⊎ (cond x (Ok i) (first_from p (suc i) k) ≡ Err NoneRight)
      go ih true = inl (record { count = i; is = refl })
      go ih false = ih
