-- Runs: how many come before the first that fails, over two lists joined, and what is looked at.
-- Assumes nothing.
use mathlib.Core.Path.{◌≡◌, refl, sym, ap, ap₂, ◌∙◌}
use mathlib.Core.Bool.{Bool, true, false, cond, ◌&&◌, false≢true}
use mathlib.Core.List.{List, [], ◌∷◌, ◌++◌}
use Prim.Native.Nat.{ℕ, zero, suc, ◌+◌, ◌*◌, ◌<◌, ◌≤◌}
use native.Mathlib.Omega.{arith}
use native.Mathlib.Nat.{zero-add}
use borrow.Author.Tests.{ne_eqb}
use lib.Dec.{eqb}
use lib.ListN.{length, get_or, length-append}
use Rattle.text.specs.Run.{all}
use Rattle.text.proofs.Bools.{cond-ap}
use Rattle.symmetry_operators.specs.Lists.{looked, with_each, pairs_with}

-- how many come before the first that fails
abbrev pub run : {A : Type 0} → (A → Bool) → List A → ℕ
run p [] = 0
run p (a ∷ l) = cond (p a) (suc (run p l)) 0

module _ {A : Type 0} (p : A → Bool) where
  pub run-append : (l m : List A) → run p (l ++ m) ≡ cond (all p l) (length l + run p m) (run p l)
  unfolding all
  run-append [] m = sym (zero-add (run p m))
  run-append (a ∷ l) m = go (run-append l m) (p a) refl
    where
      go : run p (l ++ m) ≡ cond (all p l) (length l + run p m) (run p l) → (t : Bool) → p a ≡ t
          → cond t (suc (run p (l ++ m))) 0 ≡ cond (t && all p l) (suc (length l) + run p m) (cond t (suc (run p l)) 0)
      go ih true e = ap suc ih ∙ cond-ap suc (all p l) (length l + run p m) (run p l) ∙ ap (λ (n : ℕ). cond (all p l) n (suc (run p l))) (omega arith)
      go ih false e = refl

  pub run-le : (l : List A) → run p l ≤ length l
  run-le [] = omega arith
  run-le (a ∷ l) = go (run-le l) (p a)
    where
      go : run p l ≤ length l → (t : Bool) → cond t (suc (run p l)) 0 ≤ suc (length l)
      go ih true = omega arith
      go ih false = omega arith

  pub all-run : (l : List A) → all p l ≡ eqb (run p l) (length l)
  unfolding all
  all-run [] = refl
  all-run (a ∷ l) = go (all-run l) (p a)
    where
      go : all p l ≡ eqb (run p l) (length l) → (t : Bool) → (t && all p l) ≡ eqb (cond t (suc (run p l)) 0) (suc (length l))
      go ih true = ih ∙ sym (lib.Dec.eqb-suc-suc (run p l) (length l))
      go ih false = sym (ne_eqb 0 (suc (length l)) (λ e. omega arith))

  pub looked-run : (l : List A) → looked p l ≡ cond (all p l) (length l) (suc (run p l))
  unfolding all
  looked-run [] = refl
  looked-run (a ∷ l) = go (looked-run l) (p a)
    where
      go : looked p l ≡ cond (all p l) (length l) (suc (run p l)) → (t : Bool)
          → suc (cond t (looked p l) 0) ≡ cond (t && all p l) (suc (length l)) (suc (cond t (suc (run p l)) 0))
      go ih true = ap suc ih ∙ cond-ap suc (all p l) (length l) (suc (run p l))
      go ih false = refl

  -- the first that fails stands where the run ends, and all before it hold
  pub first-fails : (l : List A) (d : A) → all p l ≡ false → p (get_or l (run p l) d) ≡ false
  unfolding all
  first-fails [] d e = absurd (false≢true (sym e))
  first-fails (a ∷ l) d e = go (first-fails l d) (p a) refl e
    where
      go : (all p l ≡ false → p (get_or l (run p l) d) ≡ false) → (t : Bool) → p a ≡ t → (t && all p l) ≡ false
          → p (get_or (a ∷ l) (cond t (suc (run p l)) 0) d) ≡ false
      go ih true q e = ih e
      go ih false q e = q

  pub before-holds : (l : List A) (d : A) (k : ℕ) → k < run p l → p (get_or l k d) ≡ true
  before-holds [] d k h = absurd (omega arith)
  before-holds (a ∷ l) d k h = go (before-holds l d) (p a) refl k h
    where
      go : ((k : ℕ) → k < run p l → p (get_or l k d) ≡ true) → (t : Bool) → p a ≡ t → (k : ℕ) → k < cond t (suc (run p l)) 0
          → p (get_or (a ∷ l) k d) ≡ true
      go ih true q zero h = q
      go ih true q (suc k) h = ih k (omega arith)
      go ih false q k h = absurd (omega arith)

module _ {A : Type 0} where
  pub length-with : (a : A) (m : List A) → length (with_each a m) ≡ length m
  length-with a [] = refl
  length-with a (b ∷ m) = ap suc (length-with a m)

  pub length_pairs : (l m : List A) → length (pairs_with l m) ≡ length l * length m
  length_pairs [] m = omega arith
  length_pairs (a ∷ l) m = length-append (with_each a m) (pairs_with l m) ∙ ap₂ ◌+◌ (length-with a m) (length_pairs l m)
      ∙ sym (native.Mathlib.Nat.suc-mul (length l) (length m) ∙ native.Mathlib.Nat.add_comm (length l * length m) (length m))
