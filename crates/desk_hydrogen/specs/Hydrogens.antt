-- The hydrogen helper and the check of a count, asked of a sheet (document 02, No. 13).
-- Assumes nothing.
use Rattle.std.specs.Prelude.{ℕ, cond, List, Result}
use Rattle.desk_state.specs.Desks.{is_sheet, sheet_at}
use Rattle.desk_state.specs.declared.desk.Desk.{Desk}
use Rattle.desk_memory.specs.Memory.{is_desk, desk_of}
use Rattle.desk_soundness.specs.Sound.{sound_desk}
use Rattle.desk_state.specs.Sheets.{value_at}
use Rattle.hydrogen_answers.specs.declared.Refusal.{Refusal}
use Rattle.hydrogen_answers.specs.Number.{proposed_number, proposed_count}
use Rattle.hydrogen_check.specs.Check.{check_of}
use Rattle.hydrogen_helper.specs.Helper.{helper_of}

-- what is answered: its number, and the count
pub record Proposal : Type 0 where
  pub answer : ℕ
  pub count : ℕ

-- the functions' result
abbrev pub proposal_in : Result ℕ Refusal → Proposal
proposal_in p = record { answer = proposed_number p; count = proposed_count p }

-- "a refusal's count is 0"
abbrev pub no_count : ℕ → Proposal
no_count a = record { answer = a; count = 0 }

-- "Refusals, after 12 and 2 as for questions: .."
abbrev pub asked_of : Desk → ℕ → Proposal → Proposal
asked_of d sheet p = cond (is_sheet sheet) (cond (sound_desk d) p (no_count 2)) (no_count 12)

-- the formula and the weight of a sheet, as typed: items 1 and 2
abbrev pub formula_on : Desk → ℕ → List ℕ
formula_on d sheet = value_at (sheet_at d sheet) 1

abbrev pub weight_on : Desk → ℕ → List ℕ
weight_on d sheet = value_at (sheet_at d sheet) 2

-- "A helper proposes a new hydrogen count"
unfoldable pub helper_on : Desk → ℕ → Proposal
helper_on d sheet = asked_of d sheet (proposal_in (helper_of (formula_on d sheet) (weight_on d sheet)))

-- "and a small check accepts only what is right, whoever proposes"
unfoldable pub check_on : Desk → ℕ → ℕ → Proposal
check_on d sheet n = asked_of d sheet (proposal_in (check_of (formula_on d sheet) (weight_on d sheet) n))

-- of lent memory; memory that is no desk gets 2
abbrev pub no_desk : ℕ → Proposal
no_desk sheet = cond (is_sheet sheet) (no_count 2) (no_count 12)

unfoldable pub helper_lent : List ℕ → List ℕ → ℕ → Proposal
helper_lent t n sheet = cond (is_desk t n) (helper_on (desk_of t n) sheet) (no_desk sheet)

unfoldable pub check_lent : List ℕ → List ℕ → ℕ → ℕ → Proposal
check_lent t n sheet count = cond (is_desk t n) (check_on (desk_of t n) sheet count) (no_desk sheet)
