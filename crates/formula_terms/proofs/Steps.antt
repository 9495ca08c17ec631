-- A test of each term of a text, and the number of the terms. Every search among the terms of a text goes by these laws.
-- Assumes nothing.
use Rattle.std.specs.Prelude.{Option}
use Rattle.std.specs.List.{list_all, list_any}
use Prim.Native.Nat.{ℕ, ◌+◌, ◌≤◌}
use mathlib.Core.Path.{◌≡◌, refl, ap}
use mathlib.Core.Bool.{Bool, true, false, cond, ◌&&◌, ◌||◌}
use mathlib.Core.List.{List, [], ◌∷◌, map}
use native.Mathlib.Omega.{arith}
use lib.Dec.{eqb}
use lib.ListN.{length}
use Rattle.text.specs.Run.{all}
use Rattle.formula_terms.specs.Term.{term_of}
use Rattle.formula_terms.specs.Terms.{attach, cut, some}
use Rattle.formula_terms.specs.declared.term.Term.{Term}

module _ (p : Option Term → Bool) where
  pub all-words : (ws : List (List ℕ)) → list_all (λ w. p (term_of w)) ws ≡ all p (map term_of ws)
  unfolding all
  all-words [] = refl
  all-words (w ∷ ws) = ap (λ (b : Bool). p (term_of w) && b) (all-words ws)

  pub some-words : (ws : List (List ℕ)) → list_any (λ w. p (term_of w)) ws ≡ some p (map term_of ws)
  unfolding some
  some-words [] = refl
  some-words (w ∷ ws) = ap (λ (b : Bool). p (term_of w) || b) (some-words ws)

-- a text has at most one term more than bytes
attach-few : (b : ℕ) (ts : List (List ℕ)) (n : ℕ) → length ts ≤ n + 1 → length (attach b ts) ≤ n + 1
attach-few b [] n h = omega arith
attach-few b (t ∷ ts) n h = h

few-by : (b : ℕ) (ts : List (List ℕ)) (n : ℕ) (x : Bool) → length ts ≤ n + 1 → length (cond x ([] ∷ ts) (attach b ts)) ≤ n + 2
few-by b ts n true h = omega arith
few-by b ts n false h = let k = attach-few b ts n h in omega arith

pub cut-few : (s : List ℕ) → length (cut s) ≤ length s + 1
unfolding cut
cut-few [] = omega arith
cut-few (b ∷ bs) = let k = few-by b (cut bs) (length bs) (eqb b 32) (cut-few bs) in omega arith
