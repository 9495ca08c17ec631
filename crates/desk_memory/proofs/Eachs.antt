-- Laws of `each`: its values, and values that differ at one place.
-- Assumes nothing.
use mathlib.Core.Path.{◌≡◌, refl, sym, ap, ◌∙◌}
use Prim.Native.Nat.{ℕ, zero, suc, ◌+◌, ◌≤◌, ◌<◌}
use native.Mathlib.Nat.{add-zero, zero-add, add-suc, suc-add, le_of_suc-le-suc, not-suc-le-zero}
use native.Mathlib.Omega.{arith}
use lib.ListN.{length, get_or, set}
use Rattle.desk_memory.specs.Memory.{each}

module _ {A : Type 0} (f : ℕ → A) where
  pub each-length : (i n : ℕ) → length (each f i n) ≡ n
  unfolding each
  each-length i zero = refl
  each-length i (suc n) = ap suc (each-length (suc i) n)

  each_from : (d : A) (n i k : ℕ) → k < n → get_or (each f i n) k d ≡ f (i + k)
  unfolding each
  each_from d zero i k h = absurd (not-suc-le-zero h)
  each_from d (suc n) i zero h = ap f (sym (add-zero i))
  each_from d (suc n) i (suc k) h = each_from d n (suc i) k (le_of_suc-le-suc h) ∙ ap f (suc-add i k ∙ sym (add-suc i k))

  pub each_at : (d : A) (n k : ℕ) → k < n → get_or (each f 0 n) k d ≡ f k
  each_at d n k h = each_from d n 0 k h ∙ ap f (zero-add k)

  module _ (g : ℕ → A) where
    same_from : (n i : ℕ) → ((j : ℕ) → i ≤ j → j < i + n → g j ≡ f j) → each g i n ≡ each f i n
    unfolding each
    same_from zero i e = refl
    same_from (suc n) i e =
        let x = e i (omega arith) (omega arith) in
        let r = same_from n (suc i) (λ j h l. e j (omega arith) (omega arith)) in
        cc

    pub each_same : (n : ℕ) → ((j : ℕ) → j < n → g j ≡ f j) → each g 0 n ≡ each f 0 n
    each_same n e = same_from n 0 (λ j h l. e j (omega arith))

    put-from : (n i k : ℕ) → ((j : ℕ) → i ≤ j → j < i + n → (j ≡ i + k → ⊥) → g j ≡ f j) → each g i n ≡ set (each f i n) k (g (i + k))
    unfolding each
    put-from zero i k e = refl
    put-from (suc n) i zero e =
        let x = ap g (add-zero i) in
        let r = same_from n (suc i) (λ j h l. e j (omega arith) (omega arith) (λ q. omega arith)) in
        cc
    put-from (suc n) i (suc k) e =
        let x = e i (omega arith) (omega arith) (λ q. omega arith) in
        let y : suc i + k ≡ i + suc k = omega arith in
        let r = put-from n (suc i) k (λ j h l d. e j (omega arith) (omega arith) (λ q. d (q ∙ sym y))) in
        let z = ap g y in
        cc

    -- values that differ at one place
    pub each_set : (n k : ℕ) → ((j : ℕ) → j < n → (j ≡ k → ⊥) → g j ≡ f j) → each g 0 n ≡ set (each f 0 n) k (g k)
    each_set n k e =
        let z = zero-add k in
        put-from n 0 k (λ j h l d. e j (omega arith) (λ q. d (q ∙ sym z))) ∙ ap (λ (x : A). set (each f 0 n) k x) (ap g z)
