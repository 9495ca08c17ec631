-- The hydrogen helper and the check of a count answer by their tables, and a refusal's count is 0.
-- Assumes nothing.
use Rattle.std.specs.Prelude.{Result, Ok, Err}
use Prim.Native.Nat.{ℕ, ◌+◌}
use mathlib.Core.Path.{◌≡◌, refl, sym, ap, subst⁻¹, ◌∙◌}
use mathlib.Core.Bool.{Bool, true, false, cond}
use mathlib.Core.Logic.{◌⊎◌, inl, inr}
use mathlib.Core.List.{List}
use Rattle.text.proofs.Bools.{fails}
use Rattle.hydrogen_answers.specs.declared.Refusal.{Refusal}
use Rattle.hydrogen_answers.specs.declared.Refusal.TheVariants.{NoSheet, Unsound, NoStart, NoneRight, NotRight}
use Rattle.hydrogen_answers.specs.Number.{proposed_number, proposed_count}
use Rattle.hydrogen_text.specs.Hydrogens.{most_hydrogens}
use Rattle.hydrogen_right.specs.Stages.{is_start, is_right}
use Rattle.hydrogen_right.proofs.Starts.{start_is, is-start}
use Rattle.hydrogen_right.proofs.Wording.{right_is, is-right}
use Rattle.hydrogen_check.specs.Check.{check_of}
use Rattle.hydrogen_helper.specs.Helper.{helper_of}
use Rattle.theorem_refusals.specs.Table.{Answers}
use Rattle.theorem_refusals.proofs.Firsts.{First, this, next, answers}
use Rattle.theorem_hydrogen.specs.Table.{helper_table, check_table}
use Rattle.theorem_hydrogen.proofs.First.{Given, first_either}
use Rattle.theorem_hydrogen.proofs.Helper.{sought, helper-sought, helper-stops, helper-right, helper-none}

module _ (f w : List ℕ) where
  by-start : (b : Bool) → is_start f w ≡ b → Given (sought f w) ⊎ (sought f w ≡ Err NoneRight) → First (helper_table f w) (proposed_number (helper_of f w))
  by-start false e d = this (λ s. fails e (is-start f w s)) (ap proposed_number (helper-stops f w e))
  by-start true e (inl g) =
      let is = helper-sought f w e ∙ g.is in
      let zero = ap proposed_number is in
      next (λ n. n (start_is f w e)) (next (λ none. none _ (helper-right f w zero)) zero)
  by-start true e (inr n) =
      let is = helper-sought f w e ∙ n in
      next (λ n. n (start_is f w e)) (this ((helper-none f w).0 (ap proposed_number is)).1 (ap proposed_number is))

  pub helper-first : First (helper_table f w) (proposed_number (helper_of f w))
  helper-first = by-start (is_start f w) refl (first_either (is_right f w) 0 (most_hydrogens + 1))

  -- "each given exactly when its condition is the first that applies"
  pub helper-table : Answers (helper_table f w) (proposed_number (helper_of f w))
  helper-table = answers (helper_table f w) _ refl helper-first

  module _ (n : ℕ) where
    by_tests : (a b : Bool) → is_start f w ≡ a → is_right f w n ≡ b → First (check_table f w n) (proposed_number (cond a (cond b (Ok n) (Err NotRight)) (Err NoStart)))
    by_tests false b s r = this (λ h. fails s (is-start f w h)) refl
    by_tests true false s r = next (λ h. h (start_is f w s)) (this (λ h. fails r (is-right f w n h)) refl)
    by_tests true true s r = next (λ h. h (start_is f w s)) (next (λ h. h (right_is f w n r)) refl)

    pub check-first : First (check_table f w n) (proposed_number (check_of f w n))
    unfolding check_of
    check-first = by_tests (is_start f w) (is_right f w n) refl refl

    pub check-table : Answers (check_table f w n) (proposed_number (check_of f w n))
    check-table = answers (check_table f w n) _ refl check-first

-- "a refusal's count is 0"
pub refused-zero : (p : Result ℕ Refusal) → (proposed_number p ≡ 0 → ⊥) → proposed_count p ≡ 0
refused-zero (Ok n) h = absurd (h refl)
refused-zero (Err NoSheet) h = refl
refused-zero (Err Unsound) h = refl
refused-zero (Err NoStart) h = refl
refused-zero (Err NoneRight) h = refl
refused-zero (Err NotRight) h = refl
