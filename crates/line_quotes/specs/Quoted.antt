-- A quoted value, and the text of a value (document 01, "A line, a number").
-- Assumes nothing.
use Rattle.std.specs.Prelude.{ℕ, ◌-◌, Bool, cond, ◌&&◌, ◌||◌, List, leb, eqb, length, get_or, take, drop}
use Rattle.text.specs.Run.{all, other}

-- a value without its first and last byte
abbrev pub inner : List ℕ → List ℕ
inner t = take (length t - 2) (drop 1 t)

-- "text without that mark, the same mark" after the mark q
unfoldable pub is_quoted_by : ℕ → List ℕ → Bool
is_quoted_by q t = leb 2 (length t) && (eqb (get_or t 0 0) q && (eqb (get_or t (length t - 1) 0) q && all (other q) (inner t)))

-- "quoted: ' or ", text without that mark, the same mark"
unfoldable pub is_quoted : List ℕ → Bool
is_quoted t = is_quoted_by 39 t || is_quoted_by 34 t

-- the text without quotes
unfoldable pub text_of : List ℕ → List ℕ
text_of t = cond (is_quoted t) (inner t) t
