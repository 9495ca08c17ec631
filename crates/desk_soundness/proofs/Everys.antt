-- Laws of `every`: a loop that has passed i elements has the rest of them before it.
-- Assumes nothing.
use mathlib.Core.Path.{◌≡◌, refl, ap}
use mathlib.Core.Bool.{Bool, true, ◌&&◌}
use mathlib.Core.List.{List, [], ◌∷◌}
use Prim.Native.Nat.{ℕ, zero, suc, ◌+◌, ◌≤◌, ◌<◌}
use native.Mathlib.Omega.{arith}
use native.Mathlib.Nat.{add-zero, not-suc-le-zero, le_of_suc-le-suc}
use native.Mathlib.Numerals.{add-one}
use lib.ListN.{length, get_or, drop, set, drop_of_length-le}
use lib.Seq.{drop-cons}
use Rattle.text.specs.Run.{all}
use Rattle.text.proofs.Bools.{and_both}
use Rattle.desk_soundness.specs.Sound.{every}

module _ {A : Type 0} (p : ℕ → A → Bool) (s : List A) where
  pub every-at : (i : ℕ) (d : A) → i < length s → every p i (drop i s) ≡ (p i (get_or s i d) && every p (i + 1) (drop (i + 1) s))
  unfolding every
  every-at i d h = rw (add-one, drop-cons s i d h)

  pub every-end : (i : ℕ) → length s ≤ i → every p i (drop i s) ≡ true
  unfolding every
  every-end i h = rw (drop_of_length-le s h)

-- where the place does not matter, it is `all`
pub every-all : {A : Type 0} (p : A → Bool) (i : ℕ) (s : List A) → every (λ (k : ℕ) (x : A). p x) i s ≡ all p s
unfolding every all
every-all p i [] = refl
every-all p i (x ∷ xs) = ap (λ (b : Bool). p x && b) (every-all p (suc i) xs)

-- what holds of every element holds of each
pub every-each : {A : Type 0} (p : ℕ → A → Bool) (s : List A) (n i : ℕ) (d : A) → every p n s ≡ true → i < length s → p (n + i) (get_or s i d) ≡ true
unfolding every
every-each p [] n i d e h = absurd (not-suc-le-zero h)
every-each p (x ∷ xs) n zero d e h = rw (add-zero n) (and_both (p n x) _ e).0
every-each p (x ∷ xs) n (suc i) d e h =
    let k = every-each p xs (suc n) i d (and_both (p n x) _ e).1 (le_of_suc-le-suc h) in
    let g : n + suc i ≡ suc n + i = omega arith in
    rw g k

-- a store of what passes, and a weaker test
pub every_set : {A : Type 0} (p : ℕ → A → Bool) (s : List A) (n i : ℕ) (x : A) → every p n s ≡ true → p (n + i) x ≡ true → every p n (set s i x) ≡ true
unfolding every
every_set p [] n i x h g = h
every_set p (y ∷ s) n zero x h g = let k = and_both (p n y) (every p (suc n) s) h in simp (rw (add-zero n) at g, k.1)
every_set p (y ∷ s) n (suc i) x h g =
    let k = and_both (p n y) (every p (suc n) s) h in
    let e : n + suc i ≡ suc n + i = omega arith in
    simp (k.0, every_set p s (suc n) i x k.1 (rw e at g))

pub every_more : {A : Type 0} (p q : ℕ → A → Bool) → ((i : ℕ) (x : A) → p i x ≡ true → q i x ≡ true) → (s : List A) (n : ℕ) → every p n s ≡ true → every q n s ≡ true
unfolding every
every_more p q f [] n h = refl
every_more p q f (x ∷ s) n h =
    let k = and_both (p n x) (every p (suc n) s) h in
    simp (f n x k.0, every_more p q f s (suc n) k.1)
