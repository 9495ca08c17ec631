-- A line in document 01's words ("A line, a number").
-- Assumes nothing.
use Rattle.std.specs.Prelude.{ℕ, ◌≤◌, ◌≡◌, true, List, ◌++◌, replicate}
use Rattle.text.specs.Run.{all, other, has_at}
use Rattle.line_values.specs.Wording.{ValueText}

-- "A line is a name (first byte _, no spaces), one or more spaces, a value, and nothing after"
pub record IsLine (t name value : List ℕ) : Type 0 where
  pub spaces : ℕ
  pub text : t ≡ name ++ (replicate spaces 32 ++ value)
  pub first : has_at name 0 95 ≡ true
  pub no_spaces : all (other 32) name ≡ true
  pub some : 1 ≤ spaces
  pub is_value : ValueText value
