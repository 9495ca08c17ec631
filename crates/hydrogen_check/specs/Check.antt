-- The answer of the check of a count (document 02, No. 13).
-- Assumes nothing.
use Rattle.std.specs.Prelude.{ℕ, cond, List, Result, Ok, Err}
use Rattle.hydrogen_answers.specs.declared.Refusal.{Refusal}
use Rattle.hydrogen_answers.specs.declared.Refusal.TheVariants.{NoStart, NotRight}
use Rattle.hydrogen_right.specs.Stages.{is_start, is_right}

-- "a small check accepts only what is right, whoever proposes"; "22, start not as said; .. 24, the check's, a proposed count that isn't right"
unfoldable pub check_of : List ℕ → List ℕ → ℕ → Result ℕ Refusal
check_of f w n = cond (is_start f w) (cond (is_right f w n) (Ok n) (Err NotRight)) (Err NoStart)
