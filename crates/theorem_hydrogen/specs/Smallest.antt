-- What the hydrogen helper and the check promise, in document 02's words (No. 13), by the numbers of the answers and the count that goes with each. `helper-promise`
-- and `check-promise` (proofs/Helper.antt) prove it of every formula and weight. Assumes nothing.
use Rattle.std.specs.Prelude.{ℕ, ◌≤◌, ◌≡◌, ◌↔◌, List}
use Rattle.hydrogen_answers.specs.Number.{proposed_number, proposed_count}
use Rattle.hydrogen_right.specs.Right.{Start, Right}
use Rattle.hydrogen_check.specs.Check.{check_of}
use Rattle.hydrogen_helper.specs.Helper.{helper_of}

-- "The helper says none exactly if no count is right, and otherwise gives the smallest right one."
pub record HelperPromise (f w : List ℕ) : Type 0 where
  pub right : proposed_number (helper_of f w) ≡ 0 → Right f w (proposed_count (helper_of f w))
  pub smallest : proposed_number (helper_of f w) ≡ 0 → (m : ℕ) → Right f w m → proposed_count (helper_of f w) ≤ m
  pub gives : Start f w → (m : ℕ) → Right f w m → proposed_number (helper_of f w) ≡ 0
  pub none : (proposed_number (helper_of f w) ≡ 23) ↔ (Start f w × ((n : ℕ) → Right f w n → ⊥))

-- "a small check accepts only what is right, whoever proposes"
pub record CheckPromise (f w : List ℕ) (n : ℕ) : Type 0 where
  pub accepts : (proposed_number (check_of f w n) ≡ 0) ↔ (Start f w × Right f w n)
  pub count : proposed_number (check_of f w n) ≡ 0 → proposed_count (check_of f w n) ≡ n
