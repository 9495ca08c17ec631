-- A missing text is no number, so that what can be compared is not missing.
-- Assumes nothing.
use Rattle.std.specs.Prelude.{Some, None}
use mathlib.Core.Path.{◌≡◌, refl, sym, ap, ◌∙◌}
use mathlib.Core.Bool.{true, false, false≢true}
use mathlib.Core.List.{List, [], ◌∷◌}
use mathlib.Core.Logic.{⊎_elim}
use Prim.Native.Nat.{ℕ}
use native.Mathlib.Omega.{arith}
use borrow.Author.Tests.{eqb-true, ne_eqb}
use lib.Dec.{eqb}
use lib.ListN.{length}
use Rattle.text.specs.Run.{run_of, has_at, kind_at, between}
use Rattle.text.proofs.Bools.{or-either, not-holds}
use Rattle.number_decimal.specs.Reading.{reading_of, unsigned_of, size_of, is_tail}
use Rattle.number_decimal.specs.Digits.{value_from}
use Rattle.line_values.specs.Value.{is_unassigned}
use Rattle.rows.specs.Rows.{missing}
use Rattle.rows_counts.specs.Wording.{There}

pub missing-none : (v : List ℕ) → missing v ≡ true → reading_of v ≡ None
unfolding missing is_unassigned reading_of unsigned_of size_of run_of has_at kind_at between is_tail value_from
missing-none [] e = refl
missing-none (b ∷ []) e =
    ⊎_elim
    (λ q. ap (λ (b : ℕ). reading_of (b ∷ [])) (eqb-true b 63 q))
    (λ q. ap (λ (b : ℕ). reading_of (b ∷ [])) (eqb-true b 46 q))
    (or-either (eqb b 63) (eqb b 46) e)
missing-none (a ∷ b ∷ v) e = absurd (false≢true (sym (simp (ne_eqb (length (a ∷ b ∷ v)) 0 (λ q. omega arith), ne_eqb (length (a ∷ b ∷ v)) 1 (λ q. omega arith))) ∙ e))

-- what can be compared is there
pub there-assigned : (v : List ℕ) → There v → missing v ≡ false
there-assigned v h = not-holds (missing v) (λ e. apart (sym h.read ∙ missing-none v e))
  where
    apart : Some h.worth ≡ None → ⊥
    apart q = let z : ◌≡◌ {A = ℕ} 0 1 = cc in omega arith
