-- Worked examples, one table: lists of operators, and what the check says of each.
-- Assumes nothing.
use mathlib.Core.Path.{◌≡◌, refl}
use mathlib.Core.List.{List, [], ◌∷◌, ◌++◌, map}
use lib.IntN.{ℤ, pos, negsuc}
use Rattle.text.specs.Run.{all}
use Rattle.symmetry_operators.specs.Operator.{after, product, determinant, identity, same_part, same, fine_part, fine, turns}
use Rattle.symmetry_operators.specs.Check.{row_from, Outcome, outcome, closing, judged, list_shaped, checked}

-- x, y, z
abbrev one : List ℤ
one = pos 1 ∷ pos 0 ∷ pos 0 ∷ pos 0 ∷ pos 1 ∷ pos 0 ∷ pos 0 ∷ pos 0 ∷ pos 1 ∷ pos 0 ∷ pos 0 ∷ pos 0 ∷ []

-- -x, y, -z with a translation of t 24ths along y: 12 for y+1/2
abbrev screw : ℤ → List ℤ
screw t = negsuc 0 ∷ pos 0 ∷ pos 0 ∷ pos 0 ∷ pos 1 ∷ pos 0 ∷ pos 0 ∷ pos 0 ∷ negsuc 0 ∷ pos 0 ∷ t ∷ pos 0 ∷ []

-- x, x, z: of determinant 0
abbrev flat : List ℤ
flat = pos 1 ∷ pos 0 ∷ pos 0 ∷ pos 1 ∷ pos 0 ∷ pos 0 ∷ pos 0 ∷ pos 0 ∷ pos 1 ∷ pos 0 ∷ pos 0 ∷ pos 0 ∷ []

abbrev lists : List (List ℤ)
lists =
    [] ∷
    one ∷
    (one ++ screw (pos 12)) ∷
    (one ++ screw (pos 6)) ∷
    (one ++ screw (pos 24)) ∷
    (one ++ flat) ∷
    (one ++ screw (pos 12) ++ screw (pos 12)) ∷
    (one ++ pos 1 ∷ []) ∷ []

-- the empty list; the identity alone; a screw axis; half of it, whose square, pair 4, is not there; 24 as a translation; a singular row; a row twice; a part row
abbrev outcomes : List Outcome
outcomes = outcome 15 0 ∷ outcome 0 1 ∷ outcome 0 4 ∷ outcome 17 4 ∷ outcome 13 0 ∷ outcome 14 0 ∷ outcome 16 0 ∷ outcome 13 0 ∷ []

pub examples-hold : map checked lists ≡ outcomes
unfolding checked list_shaped judged closing row_from fine fine_part turns determinant same same_part identity product after all
examples-hold = refl
