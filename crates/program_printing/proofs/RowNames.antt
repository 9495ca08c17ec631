-- The code's table of row names. That it is the table of names is a test that antt computes.
-- Assumes nothing.
use mathlib.Core.Path.{◌≡◌, refl}
use mathlib.Core.List.{List, [], ◌∷◌, ◌++◌}
use Prim.Native.Nat.{ℕ, ◌+◌, ◌-◌, ◌≤◌, ◌<◌}
use lib.ListN.{length, get_or, take, drop}
use Rattle.text.proofs.Tables.{agree, nowhere-above}
use Rattle.rows.specs.Rows.{row_count}
use Rattle.program_printing.specs.Page.{row_name_most}
use Rattle.program_printing.specs.Print.{row_names, row_name}

-- at a row's place the list of the names has its name
pub listed-row : (d : List ℕ) (k : ℕ) → k < row_count → get_or row_names k d ≡ row_name (k + 1)
unfolding row_names
listed-row d = agree (λ (k : ℕ). get_or row_names k d) (λ (k : ℕ). row_name (k + 1)) [] row_count refl

-- the names one after the other in one text, and where each begins there
concat : List (List ℕ) → List ℕ
concat [] = []
concat (t ∷ ts) = t ++ concat ts

unfoldable pub flat : List ℕ
unfolding concat row_names
flat = concat row_names

unfoldable pub starts : List ℕ
starts = 0 ∷ 9 ∷ 18 ∷ 26 ∷ 35 ∷ 44 ∷ 52 ∷ 61 ∷ 69 ∷ 78 ∷ 86 ∷ 95 ∷ 103 ∷ 106 ∷ 109 ∷ 112 ∷ 115 ∷ 118 ∷ 121 ∷ 124 ∷ 127 ∷ 130 ∷ 133 ∷ 136 ∷ 139 ∷ 142 ∷ []

pub name-part : (k : ℕ) → k < row_count → take (get_or starts (k + 1) 0 - get_or starts k 0) (drop (get_or starts k 0) flat) ≡ row_name (k + 1)
unfolding starts flat row_names
name-part = agree (λ (k : ℕ). take (get_or starts (k + 1) 0 - get_or starts k 0) (drop (get_or starts k 0) flat)) (λ (k : ℕ). row_name (k + 1)) [] row_count refl

pub name-short : (k : ℕ) → k < row_count → length (row_name (k + 1)) ≤ row_name_most
unfolding row_names
name-short = nowhere-above (λ (k : ℕ). length (row_name (k + 1))) (λ (k : ℕ). row_name_most) row_count refl
