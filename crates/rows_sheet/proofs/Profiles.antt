-- The profiles of a sheet's report (document 02, No. 11 and 12).
-- Assumes nothing.
use mathlib.Core.Path.{◌≡◌, refl, ap}
use mathlib.Core.List.{List, [], ◌∷◌, ◌++◌}
use mathlib.Core.Logic.{◌⊎◌, inl, inr, ⊎_elim}
use Prim.Native.Nat.{ℕ, zero, suc, ◌-◌}
use lib.ListN.{get_or, take}
use Rattle.desk_state.specs.declared.sheet.Sheet.{Sheet}
use Rattle.rows.specs.Rows.{powder, no_alert}
use Rattle.rows.specs.declared.Row.{Row}
use Rattle.rows_counts.specs.Counts.{keeps, count_row, count_rows}
use Rattle.rows_counts.proofs.Fires.{kept-or-none}
use Rattle.desk_state.specs.Sheets.{value_at}
use Rattle.rows_sheet.specs.Sheet.{first_rows, last_row, rows_of, row_at}

-- rows 1 to 12 are those of document 01, in every profile
pub first-rows : (profile : ℕ) (s : Sheet) → take 12 (rows_of profile s).rows ≡ first_rows s
first-rows profile s = refl

-- row 25 is that of items 1 and 19, in every profile
pub last-row : (profile : ℕ) (s : Sheet) → row_at (rows_of profile s) 25 ≡ last_row s
last-row profile s = refl

-- of two lists, row by row: the first has no alert there, or the second has the same row
abbrev NoMore : List Row → List Row → Type 0
NoMore [] qs = Unit {0}
NoMore (p ∷ ps) [] = ⊥
NoMore (p ∷ ps) (q ∷ qs) = ((p ≡ no_alert) ⊎ (p ≡ q)) × NoMore ps qs

no-more-at : (ps qs : List Row) → NoMore ps qs → (k : ℕ) → (get_or ps k no_alert ≡ no_alert) ⊎ (get_or ps k no_alert ≡ get_or qs k no_alert)
no-more-at [] qs h k = inl refl
no-more-at (p ∷ ps) [] h k = absurd h
no-more-at (p ∷ ps) (q ∷ qs) h zero = h.0
no-more-at (p ∷ ps) (q ∷ qs) h (suc k) = no-more-at ps qs h.1 k

-- rows that are the same, and others after them
same-before : (rs ps qs : List Row) → NoMore ps qs → NoMore (rs ++ ps) (rs ++ qs)
same-before [] ps qs h = h
same-before (r ∷ rs) ps qs h = (inr refl, same-before rs ps qs h)

-- a row from 13 to 24: single-crystal keeps them all
count-no-more : (at : ℕ → List ℕ) (k : ℕ) → (count_row powder at k ≡ no_alert) ⊎ (count_row powder at k ≡ count_row 0 at k)
unfolding keeps
count-no-more at k = kept-or-none powder 0 at k refl

-- and one that is the same after them
counts-no-more : (at : ℕ → List ℕ) (last : Row) → NoMore (count_rows powder at ++ (last ∷ [])) (count_rows 0 at ++ (last ∷ []))
counts-no-more at last =
    let row = count-no-more at in
    (row 13, (row 14, (row 15, (row 16, (row 17, (row 18, (row 19, (row 20, (row 21, (row 22, (row 23, (row 24, (inr refl, tt)))))))))))))

-- a row for powder has no alert, or it is the row for a single crystal
pub powder-row : (s : Sheet) (k : ℕ) → (row_at (rows_of powder s) k ≡ no_alert) ⊎ (row_at (rows_of powder s) k ≡ row_at (rows_of 0 s) k)
powder-row s k = no-more-at (rows_of powder s).rows (rows_of 0 s).rows (same-before (first_rows s) (count_rows powder (value_at s) ++ (last_row s ∷ [])) (count_rows 0 (value_at s) ++ (last_row s ∷ [])) (counts-no-more (value_at s) (last_row s))) (k - 1)

-- "Powder gives no alert that the other profile lacks": whatever the sheet, a row's level is 0 or that under the other profile
pub powder-no-more : (s : Sheet) (k : ℕ) → ((row_at (rows_of powder s) k).level ≡ 0) ⊎ ((row_at (rows_of powder s) k).level ≡ (row_at (rows_of 0 s) k).level)
powder-no-more s k = ⊎_elim (λ e. inl (ap (λ (r : Row). r.level) e)) (λ e. inr (ap (λ (r : Row). r.level) e)) (powder-row s k)
