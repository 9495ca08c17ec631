-- Hints where a code may stand. Nothing rests on them: whether a code is there is the same with any hints.
-- Assumes nothing.
use Rattle.std.specs.Prelude.{ℕ, suc, ◌%◌, List, [], ◌∷◌, set, replicate}

abbrev pub hint_of : ℕ → ℕ
hint_of c = c % 4051

-- the hints h with those of the codes from place i on
unfoldable pub hints_from : ℕ → List ℕ → List ℕ → List ℕ
hints_from i [] h = h
hints_from i (c ∷ l) h = hints_from (suc i) l (set h (hint_of c) (i % 256))

abbrev pub hints_of : List ℕ → List ℕ
hints_of codes = hints_from 0 codes (replicate 4096 0)
