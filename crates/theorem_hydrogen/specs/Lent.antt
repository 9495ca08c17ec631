-- What the hydrogen helper and the check, asked of a sheet in lent memory, promise of the count that goes with their number (document 02, No. 13).
-- `lent-refused-zero`, `lent-smallest` and `lent-checked` (proofs/DeskAnswers.antt) prove it of all memory. Assumes nothing.
use Rattle.std.specs.Prelude.{ℕ, ◌≤◌, ◌≡◌, List}
use Rattle.desk_memory.specs.Memory.{desk_of}
use Rattle.hydrogen_right.specs.Right.{Right}
use Rattle.desk_hydrogen.specs.Hydrogens.{Proposal, formula_on, weight_on, helper_lent, check_lent}

-- "a refusal's count is 0"
abbrev pub RefusedZero : Proposal → Type 0
RefusedZero p = (p.answer ≡ 0 → ⊥) → p.count ≡ 0

-- a count is right for the formula and the weight that a sheet in lent memory has
abbrev pub RightLent : List ℕ → List ℕ → ℕ → ℕ → Type 0
RightLent t n sheet count = Right (formula_on (desk_of t n) sheet) (weight_on (desk_of t n) sheet) count

-- "and otherwise gives the smallest right one"
pub record LentSmallest (t n : List ℕ) (sheet : ℕ) : Type 0 where
  pub right : (helper_lent t n sheet).answer ≡ 0 → RightLent t n sheet (helper_lent t n sheet).count
  pub smallest : (helper_lent t n sheet).answer ≡ 0 → (m : ℕ) → RightLent t n sheet m → (helper_lent t n sheet).count ≤ m

-- "accepts only what is right, whoever proposes": the count that was proposed
pub record LentChecked (t n : List ℕ) (sheet count : ℕ) : Type 0 where
  pub right : (check_lent t n sheet count).answer ≡ 0 → RightLent t n sheet count
  pub same : (check_lent t n sheet count).answer ≡ 0 → (check_lent t n sheet count).count ≡ count
