-- The new text as it is typed (document 02, No. 13), and terms put one after the other.
-- Assumes nothing.
use Rattle.std.specs.Prelude.{ℕ, ◌+◌, ◌≤◌, ◌<◌, ◌≡◌, Bool, cond, List, [], ◌∷◌, ◌++◌, leb, length, take}
use Rattle.hydrogen_text.specs.Hydrogens.{most_text_bytes, other_words, in_quotes}
use Rattle.hydrogen_text.specs.NewText.{placed, new_text}

-- the text s with n hydrogens as it is typed, "text of at most 176 bytes"; nothing where it is longer
unfoldable pub typed_with : ℕ → List ℕ → List ℕ
typed_with n s = cond (leb (length (new_text n s)) most_text_bytes) (in_quotes (new_text n s)) []

-- the longest text and its two marks
abbrev pub typed_most : ℕ
typed_most = most_text_bytes + 2

-- a term with a space after it, or nothing
abbrev pub spaced : Bool → List ℕ → List ℕ
spaced wanted w = cond wanted (w ++ (32 ∷ [])) []

-- the terms that are to come: the other ones of some terms, with a term of hydrogen if it is wanted
abbrev pub to_come : Bool → List ℕ → Bool → List (List ℕ) → List (List ℕ)
to_come carbon h wanted ws = cond wanted (placed carbon h (other_words ws)) (other_words ws)

-- out begins with some bytes, which end at a place; or they do not fit, and the place is past the end
pub data Shows (out : List ℕ) (at : ℕ) (bytes : List ℕ) : Type 0 where
  whole : at ≡ length bytes → at ≤ length out → take at out ≡ bytes → Shows out at bytes
  cut_off : length out < at → length out < length bytes → Shows out at bytes

-- some more bytes are put after those that out begins with
abbrev pub Puts : List ℕ → ℕ → List ℕ → List ℕ → ℕ → Type 0
Puts out at more after r = (bytes : List ℕ) → Shows out at bytes → Shows after r (bytes ++ more)
