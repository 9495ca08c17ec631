-- A value in document 01's words ("A line, a number").
-- Assumes nothing.
use Rattle.std.specs.Prelude.{ℕ, ◌≤◌, ◌≡◌, true, false, length, get_or}
use mathlib.Core.List.{List, [], ◌∷◌, ◌++◌, Memᴰ}
use Rattle.text.specs.Quote.{bytes}
use Rattle.text.specs.Run.{all, other}
use Rattle.line_values.specs.Value.{is_reserved}

-- "' or ""
pub data Mark : ℕ → Type 0 where
  single : Mark 39
  double : Mark 34

-- "quoted: ' or ", text without that mark, the same mark": the value t, and the text between its marks
pub record QuotedText (t inside : List ℕ) : Type 0 where
  pub mark : ℕ
  pub is_mark : Mark mark
  pub text : t ≡ mark ∷ (inside ++ (mark ∷ []))
  pub without : all (other mark) inside ≡ true

-- "bare (no spaces, first byte none of ' " _ # $ [ ])", and no reserved word
pub record BareText (t : List ℕ) : Type 0 where
  pub some : 1 ≤ length t
  pub first : Memᴰ (get_or t 0 0) (bytes "'\"_#$[]") → ⊥
  pub no_spaces : all (other 32) t ≡ true
  pub not_reserved : is_reserved t ≡ false

-- "A value is bare .. or quoted"
pub data ValueText (t : List ℕ) : Type 0 where
  bare : BareText t → ValueText t
  quoted : (inside : List ℕ) → QuotedText t inside → ValueText t
