-- The table of one line, the wall screen's first question (document 01, "Keys and their refusals"): "the number 0, 5, 6 or 7 for one line (over 80 bytes, or a
-- byte outside 32 to 126: 5)"; document 02, No. 6: over 200. That it is the number of `class_of` is `line-table` (proofs/LineAnswers.antt).
-- Assumes nothing.
use Rattle.std.specs.Prelude.{ℕ, ◌<◌, ◌≡◌, true, List, [], ◌∷◌, length}
use Rattle.text.specs.Run.{all}
use Rattle.line_items.specs.Items.{IsName}
use Rattle.line_items.specs.Typed.{line_most, is_typed}
use Rattle.line_kinds.specs.Wording.{Passes}
use Rattle.line_reader.specs.Wording.{IsLine}
use Rattle.theorem_refusals.specs.Table.{Refusal, ◌when◌}

-- the line t has a name and a value of which P is so
pub record OfForm (t : List ℕ) (P : List ℕ → List ℕ → Type 0) : Type 0 where
  pub name : List ℕ
  pub value : List ℕ
  pub parts : IsLine t name value
  pub so : P name value

-- the line t has the name of an item and a value of which P is so
pub record OfItem (t : List ℕ) (P : ℕ → List ℕ → Type 0) : Type 0 where
  pub name : List ℕ
  pub value : List ℕ
  pub item : ℕ
  pub parts : IsLine t name value
  pub named : IsName name item
  pub so : P item value

-- "the line is not of the form below"
abbrev pub BadForm : List ℕ → Type 0
BadForm t = (name value : List ℕ) → IsLine t name value → ⊥

-- "the name is none of the ten"; document 02, No. 11 and 12: of the nineteen
abbrev pub UnknownName : List ℕ → Type 0
UnknownName t = OfForm t (λ name value. (item : ℕ) → IsName name item → ⊥)

-- "the value fails its item's kind"
abbrev pub WrongKind : List ℕ → Type 0
WrongKind t = OfItem t (λ item value. Passes item value → ⊥)

-- "over 80 (200) bytes, or a byte outside 32 to 126: 5", and the form
pub data BadLine (t : List ℕ) : Type 0 where
  long : line_most < length t → BadLine t
  outside : (all is_typed t ≡ true → ⊥) → BadLine t
  bad_form : BadForm t → BadLine t

abbrev pub line_table : List ℕ → List Refusal
line_table t =
    5 when BadLine t ∷
    6 when UnknownName t ∷
    7 when WrongKind t ∷ []
