-- Each answer of the check, from the tests on the way to it.
-- Assumes nothing.
use mathlib.Core.Path.{◌≡◌, refl, sym, ap, ◌∙◌}
use mathlib.Core.Bool.{Bool, true, false, cond, ◌&&◌}
use mathlib.Core.List.{List}
use Prim.Native.Nat.{◌*◌, ◌/◌, ◌%◌}
use borrow.Author.Tests.{eq-eqb, ne_eqb}
use lib.Dec.{leb}
use lib.IntN.{ℤ}
use lib.ListN.{length}
use Rattle.text.specs.Run.{all}
use Rattle.symmetry_operators.specs.Operator.{fine}
use Rattle.symmetry_operators.specs.Check.{row_most, Outcome, outcome, operator_rows, judged, list_shaped, checked}
use Rattle.symmetry_operators.proofs.Bridge.{judged-codes}
use Rattle.symmetry_judged.specs.Judged.{judged_few}

module _ (l : List ℤ) where
  pub part_row : (length l % 12 ≡ 0 → ⊥) → outcome 13 0 ≡ checked l
  unfolding checked list_shaped
  part_row e = rw (ne_eqb (length l % 12) 0 e)

  module _ (whole : length l % 12 ≡ 0) where
    pub out_of_range : all fine (operator_rows l) ≡ false → outcome 13 0 ≡ checked l
    unfolding checked list_shaped
    out_of_range e = rw (eq-eqb (length l % 12) 0 whole, e) (go (leb (length l) (12 * row_most)))
      where
        go : (t : Bool) → outcome 13 0 ≡ cond (t && false) (judged (operator_rows l)) (outcome 13 0)
        go true = refl
        go false = refl

    pub in_range : all fine (operator_rows l) ≡ true → {r : Outcome} → r ≡ judged_few l → r ≡ checked l
    unfolding checked list_shaped judged_few
    in_range e f =
        f ∙ ap (λ (o : Outcome). cond (leb (length l) (12 * row_most)) o (outcome 13 0)) (sym (judged-codes (length l / 12) l e))
        ∙ rw (eq-eqb (length l % 12) 0 whole, e) (go (leb (length l) (12 * row_most)))
      where
        go : (t : Bool) → cond t (judged (operator_rows l)) (outcome 13 0) ≡ cond (t && true) (judged (operator_rows l)) (outcome 13 0)
        go true = refl
        go false = refl
