-- The check of a list of symmetry operators answers by its table.
-- Assumes nothing.
use mathlib.Core.Path.{◌≡◌, refl, subst⁻¹}
use mathlib.Core.Bool.{Bool, true, false, cond}
use mathlib.Core.List.{List}
use Prim.Native.Nat.{ℕ}
use lib.IntN.{ℤ}
use Rattle.text.specs.Run.{all}
use Rattle.text.proofs.Bools.{fails, cond-ap}
use Rattle.symmetry_operators.specs.Operator.{Row, identity, same, turns}
use Rattle.symmetry_operators.specs.Lists.{has, distinct}
use Rattle.symmetry_operators.specs.Check.{operator_rows, closes, pairs, closing, judged, list_shaped, checked, Outcome}
use Rattle.symmetry_operators.proofs.Words.{shaped-is, not-shaped, list-or-not, no-unit, units-or-not, has-row, row_has, equal-rows, distinct-is, products-or-not}
use Rattle.symmetry_operators.proofs.Position.{product-missing}
use Rattle.theorem_refusals.specs.Table.{Answers}
use Rattle.theorem_refusals.proofs.Firsts.{First, this, next, answers}
use Rattle.theorem_symmetry.specs.Table.{list_table}

module _ (n : List ℤ) where
  abbrev l : List (Row ℤ)
  l = operator_rows n

  -- the number by tests
  abbrev number : Bool → Bool → Bool → Bool → Bool → ℕ
  number a b c d e = cond a (cond b (cond c (cond d (cond e 0 17) 16) 15) 14) 13

  by_tests : (a b c d e : Bool) → list_shaped n ≡ a → all turns l ≡ b → has same l identity ≡ c → distinct same l ≡ d → all (closes l) (pairs l) ≡ e
      → First (list_table n) (number a b c d e)
  by_tests false b c d e p q r s t = this (not-shaped n p) refl
  by_tests true false c d e p q r s t = next (list-or-not n (shaped-is n p)) (this (no-unit l q) refl)
  by_tests true true false d e p q r s t = next (list-or-not n (shaped-is n p))
      (next (units-or-not l q) (this (λ i. fails r (row_has l identity i)) refl))
  by_tests true true true false e p q r s t =
      next (list-or-not n (shaped-is n p)) (next (units-or-not l q) (next (λ none. none (has-row l identity r)) (this (equal-rows l s) refl)))
  by_tests true true true true false p q r s t =
      next (list-or-not n (shaped-is n p)) (next (units-or-not l q) (next (λ none. none (has-row l identity r))
      (next (λ m. distinct-is l s m.first m.second m.apart m.within m.equal) (this (product-missing l t) refl))))
  by_tests true true true true true p q r s t =
      next (list-or-not n (shaped-is n p)) (next (units-or-not l q) (next (λ none. none (has-row l identity r))
      (next (λ m. distinct-is l s m.first m.second m.apart m.within m.equal) (next (products-or-not l t) refl))))

  number_is : (checked n).answer ≡ number (list_shaped n) (all turns l) (has same l identity) (distinct same l) (all (closes l) (pairs l))
  unfolding checked judged closing
  number_is = simp (cond-ap (λ (x : Outcome). x.answer))

  -- "each given exactly when its condition is the first that applies"
  pub list-table : Answers (list_table n) (checked n).answer
  list-table =
      subst⁻¹ (Answers (list_table n)) number_is
      (answers (list_table n) _ refl
      (by_tests (list_shaped n) (all turns l) (has same l identity) (distinct same l) (all (closes l) (pairs l)) refl refl refl refl refl))
