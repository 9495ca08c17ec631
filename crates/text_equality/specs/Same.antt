-- When two texts are the same, byte for byte or without regard to the case of A to Z.
-- Assumes nothing.
use Rattle.std.specs.Prelude.{ℕ, ◌+◌, Bool, true, false, cond, ◌&&◌, List, [], ◌∷◌, eqb, length, take}
use Rattle.text.specs.Run.{is_capital}

-- the small letter of a capital of A to Z; any other byte is itself
unfoldable pub lower : ℕ → ℕ
lower b = cond (is_capital b) (b + 32) b

-- a byte as it is
abbrev pub exact : ℕ → ℕ
exact b = b

-- two texts are the same when each byte is seen through f
unfoldable pub same_by : (ℕ → ℕ) → List ℕ → List ℕ → Bool
same_by f [] [] = true
same_by f [] (y ∷ ys) = false
same_by f (x ∷ xs) [] = false
same_by f (x ∷ xs) (y ∷ ys) = eqb (f x) (f y) && same_by f xs ys

-- the same but for the case of A to Z
abbrev pub same_folded : List ℕ → List ℕ → Bool
same_folded a b = same_by lower a b

-- the text begins with p, but for the case of A to Z
unfoldable pub begins_folded : List ℕ → List ℕ → Bool
begins_folded s p = same_folded (take (length p) s) p
