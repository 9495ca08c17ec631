-- "The helper says none exactly if no count is right, and otherwise gives the smallest right one", by the definition of right; and the check accepts just
-- what is right. Assumes nothing.
use Rattle.std.specs.Prelude.{Result, Ok, Err}
use Prim.Native.Nat.{ℕ, ◌+◌, ◌≤◌, ◌<◌}
use mathlib.Core.Path.{◌≡◌, refl, sym, ap, ◌∙◌}
use mathlib.Core.Bool.{Bool, true, false, cond, false≢true}
use mathlib.Core.Logic.{◌⊎◌, inl, inr, ⊎_elim, ◌↔◌}
use mathlib.Core.List.{List}
use native.Mathlib.Omega.{arith}
use borrow.Author.Tests.{leb-true, leb-false}
use lib.Dec.{leb}
use Rattle.hydrogen_answers.specs.declared.Refusal.{Refusal}
use Rattle.hydrogen_answers.specs.declared.Refusal.TheVariants.{NoSheet, Unsound, NoStart, NoneRight, NotRight}
use Rattle.hydrogen_answers.specs.Number.{proposed_number, proposed_count}
use Rattle.hydrogen_text.specs.Hydrogens.{most_hydrogens}
use Rattle.hydrogen_right.specs.Right.{Start, Right}
use Rattle.hydrogen_right.specs.Stages.{is_start, is_right}
use Rattle.hydrogen_right.proofs.Starts.{start_is, is-start}
use Rattle.hydrogen_right.proofs.Wording.{right_is, is-right}
use Rattle.hydrogen_check.specs.Check.{check_of}
use Rattle.hydrogen_helper.specs.Helper.{first_from, helper_of}
use Rattle.theorem_hydrogen.specs.Smallest.{HelperPromise, CheckPromise}
use Rattle.theorem_hydrogen.proofs.First.{count-not, Firstly, Given, first_passes, first-fails, first_either}

no_start : {n : ℕ} → Err NoStart ≡ Ok n → ⊥
no_start e = let z : ◌≡◌ {A = ℕ} 0 1 = cc in omega arith

start-not : ◌≡◌ {A = Result ℕ Refusal} (Err NoStart) (Err NoneRight) → ⊥
start-not e = let z : ◌≡◌ {A = ℕ} 0 1 = cc in omega arith

-- 0 is the number of a count alone
zero-counts : (p : Result ℕ Refusal) → proposed_number p ≡ 0 → p ≡ Ok (proposed_count p)
zero-counts (Ok n) e = refl
zero-counts (Err NoSheet) e = absurd (omega arith)
zero-counts (Err Unsound) e = absurd (omega arith)
zero-counts (Err NoStart) e = absurd (omega arith)
zero-counts (Err NoneRight) e = absurd (omega arith)
zero-counts (Err NotRight) e = absurd (omega arith)

-- and 23 of none alone
says_none : (p : Result ℕ Refusal) → proposed_number p ≡ 23 → p ≡ Err NoneRight
says_none (Ok n) e = absurd (omega arith)
says_none (Err NoSheet) e = absurd (omega arith)
says_none (Err Unsound) e = absurd (omega arith)
says_none (Err NoStart) e = absurd (omega arith)
says_none (Err NoneRight) e = refl
says_none (Err NotRight) e = absurd (omega arith)

module _ (f w : List ℕ) where
  -- what the helper looks for
  abbrev pub sought : Result ℕ Refusal
  sought = first_from (is_right f w) 0 (most_hydrogens + 1)

  -- with a start as said it is the first count that is right
  pub helper-sought : is_start f w ≡ true → helper_of f w ≡ sought
  unfolding helper_of
  helper-sought e = rw e

  pub helper-stops : is_start f w ≡ false → helper_of f w ≡ Err NoStart
  unfolding helper_of
  helper-stops e = rw e

  first-right : proposed_number (helper_of f w) ≡ 0 → Firstly (is_right f w) 0 (proposed_count (helper_of f w))
  first-right e = go (is_start f w) refl
    where
      is : helper_of f w ≡ Ok (proposed_count (helper_of f w))
      is = zero-counts (helper_of f w) e

      go : (b : Bool) → is_start f w ≡ b → Firstly (is_right f w) 0 (proposed_count (helper_of f w))
      go true s = first_passes (is_right f w) 0 (most_hydrogens + 1) (proposed_count (helper_of f w)) (sym (helper-sought s) ∙ is)
      go false s = absurd (no_start (sym (helper-stops s) ∙ is))

  -- what the helper gives is right
  pub helper-right : proposed_number (helper_of f w) ≡ 0 → Right f w (proposed_count (helper_of f w))
  helper-right e = right_is f w (proposed_count (helper_of f w)) (first-right e).passes

  -- and the smallest right count
  pub helper-smallest : proposed_number (helper_of f w) ≡ 0 → (m : ℕ) → Right f w m → proposed_count (helper_of f w) ≤ m
  helper-smallest e m r = go (leb (proposed_count (helper_of f w)) m) refl
    where
      go : (b : Bool) → leb (proposed_count (helper_of f w)) m ≡ b → proposed_count (helper_of f w) ≤ m
      go true l = leb-true (proposed_count (helper_of f w)) m l
      go false l = absurd (false≢true (sym ((first-right e).before m (omega arith) (leb-false (proposed_count (helper_of f w)) m l)) ∙ is-right f w m r))

  -- there is a first right count, or none
  either : Given sought ⊎ (sought ≡ Err NoneRight)
  either = first_either (is_right f w) 0 (most_hydrogens + 1)

  none_right : sought ≡ Err NoneRight → (n : ℕ) → Right f w n → ⊥
  none_right e n r =
      let l : n < 0 + (most_hydrogens + 1) = omega (arith, r.count) in
      false≢true (sym (first-fails (is_right f w) 0 (most_hydrogens + 1) e n (omega arith) l) ∙ is-right f w n r)

  right-none : ((n : ℕ) → Right f w n → ⊥) → sought ≡ Err NoneRight
  right-none h =
      ⊎_elim (λ (g : Given sought). absurd (h g.count (right_is f w g.count (first_passes (is_right f w) 0 (most_hydrogens + 1) g.count g.is).passes))) (λ e. e)
      either

  -- where some count is right it gives one
  pub helper-gives : Start f w → (m : ℕ) → Right f w m → proposed_number (helper_of f w) ≡ 0
  helper-gives s m r =
      ap proposed_number (helper-sought (is-start f w s)) ∙ ⊎_elim (λ (g : Given sought). ap proposed_number g.is) (λ e. absurd (none_right e m r)) either

  -- it says none exactly if no count is right
  pub helper-none : (proposed_number (helper_of f w) ≡ 23) ↔ (Start f w × ((n : ℕ) → Right f w n → ⊥))
  helper-none = (λ e. go (is_start f w) refl (says_none (helper_of f w) e), λ h. ap proposed_number (helper-sought (is-start f w h.0) ∙ right-none h.1))
    where
      go : (b : Bool) → is_start f w ≡ b → helper_of f w ≡ Err NoneRight → Start f w × ((n : ℕ) → Right f w n → ⊥)
      go true s e = (start_is f w s, none_right (sym (helper-sought s) ∙ e))
      go false s e = absurd (start-not (sym (helper-stops s) ∙ e))

  pub helper-promise : HelperPromise f w
  helper-promise = record { right = helper-right; smallest = helper-smallest; gives = helper-gives; none = helper-none }

  -- the check accepts a count exactly if it is right, and gives it back
  pub check-promise : (n : ℕ) → CheckPromise f w n
  unfolding check_of
  check-promise n = record {
    accepts = (λ e. go (is_start f w) (is_right f w n) refl refl e, λ h. rw (is-start f w h.0, is-right f w n h.1));
    count = count (is_start f w) (is_right f w n);
  }
    where
      go : (a b : Bool) → is_start f w ≡ a → is_right f w n ≡ b → proposed_number (cond a (cond b (Ok n) (Err NotRight)) (Err NoStart)) ≡ 0 → Start f w × Right f w n
      go true true s r e = (start_is f w s, right_is f w n r)
      go true false s r e = absurd (omega arith)
      go false b s r e = absurd (omega arith)

      count : (a b : Bool) → proposed_number (cond a (cond b (Ok n) (Err NotRight)) (Err NoStart)) ≡ 0 → proposed_count (cond a (cond b (Ok n) (Err NotRight)) (Err NoStart)) ≡ n
      count true true e = refl
      count true false e = absurd (omega arith)
      count false b e = absurd (omega arith)
