-- The first number that passes a test, and the smallest right count by its closed form.
-- Assumes nothing.
use Rattle.std.specs.Prelude.{Ok, Err}
use Prim.Native.Nat.{ℕ, zero, suc, ◌+◌, ◌≤◌, ◌<◌}
use mathlib.Core.Path.{◌≡◌, refl, sym, ◌∙◌}
use mathlib.Core.Bool.{Bool, true, false, cond, false≢true}
use mathlib.Core.List.{List}
use native.Mathlib.Omega.{arith}
use borrow.Author.Tests.{eqb-true, eqb-false}
use lib.Dec.{eqb}
use Rattle.text.proofs.Bools.{not-holds}
use Rattle.hydrogen_answers.specs.declared.Refusal.TheVariants.{NoneRight}
use Rattle.hydrogen_text.specs.Hydrogens.{most_hydrogens}
use Rattle.hydrogen_right.specs.Stages.{is_right}
use Rattle.hydrogen_right.proofs.Wording.{tested}
use Rattle.hydrogen_right.proofs.Closed.{Smallest}
use Rattle.hydrogen_helper.specs.Helper.{first_from}

module _ (p : ℕ → Bool) where
  pub first-none : (i k : ℕ) → ((j : ℕ) → i ≤ j → j < i + k → p j ≡ false) → first_from p i k ≡ Err NoneRight
  unfolding first_from
  first-none i zero h = refl
  first-none i (suc k) h = rw (h i (omega arith) (omega arith)) (first-none (suc i) k (λ j a b. h j (omega arith) (omega arith)))

  pub first-is : (i k n : ℕ) → i ≤ n → n < i + k → p n ≡ true → ((j : ℕ) → i ≤ j → j < n → p j ≡ false) → first_from p i k ≡ Ok n
  unfolding first_from
  first-is i zero n a b e f = absurd (omega arith)
  first-is i (suc k) n a b e f = go (first-is (suc i) k n) (eqb i n) refl
    where
      go : (suc i ≤ n → n < suc i + k → p n ≡ true → ((j : ℕ) → suc i ≤ j → j < n → p j ≡ false) → first_from p (suc i) k ≡ Ok n)
          → (t : Bool) → eqb i n ≡ t → cond (p i) (Ok i) (first_from p (suc i) k) ≡ Ok n
      go ih true q = let z = eqb-true i n q in rw (z, e)
      go ih false q =
          let z = eqb-false i n q in
          let l : i < n = omega arith in
          let m : i ≤ i = omega arith in
          rw (f i m l) (ih l (omega arith) e (λ j u v. f j (omega arith) v))

module _ (f w : List ℕ) (n : ℕ) (smallest : Smallest f w n) where
  pub found : is_right f w n ≡ true → first_from (is_right f w) 0 (most_hydrogens + 1) ≡ Ok n
  found e =
      let m : n < 0 + (most_hydrogens + 1) = omega (arith, (tested f w n e).count) in
      first-is (is_right f w) 0 (most_hydrogens + 1) n (omega arith) m e (λ j a l. smallest.below j l)

  pub not_found : is_right f w n ≡ false → first_from (is_right f w) 0 (most_hydrogens + 1) ≡ Err NoneRight
  not_found e = first-none (is_right f w) 0 (most_hydrogens + 1) (λ j a l. not-holds (is_right f w j) (λ q. false≢true (sym e ∙ smallest.any j q)))
