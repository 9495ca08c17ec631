-- The table of a key call, row by row in the words of document 01 ("Keys and their refusals") and of document 02, No. 8 and 9. That it is what a key call answers
-- is `key-table`, of a desk in lent memory `lent-key-table` (proofs/KeyAnswers.antt).
-- Assumes nothing.
use Rattle.std.specs.Prelude.{ℕ, ◌-◌, ◌≤◌, ◌<◌, ◌≡◌, List, [], ◌∷◌, length}
use Rattle.line_items.specs.Typed.{line_most}
use Rattle.desk_log.specs.Record.{record_length}
use Rattle.desk_state.specs.Lines.{typed}
use Rattle.desk_state.specs.Desks.{bench_count, line_at}
use Rattle.desk_memory.specs.Memory.{Sized, desk_of, used_of}
use Rattle.desk_soundness.specs.Wording.{Sound, SoundWith}
use Rattle.desk_entries.specs.Entry.{own_item}
use Rattle.desk_state.specs.declared.sheet.Item.{Item}
use Rattle.desk_state.specs.declared.desk.Desk.{Desk}
use Rattle.theorem_refusals.specs.Table.{Refusal, ◌when◌}
use Rattle.theorem_refusals.specs.Line.{OfItem, BadForm, UnknownName, WrongKind}

-- "32 to 126 are appended"
abbrev pub Appends : ℕ → Type 0
Appends byte = (32 ≤ byte) × (byte ≤ 126)

-- "32 to 126 are appended, 8 erases, 24 empties the line, 10 is Enter"
pub data IsKey (byte : ℕ) : Type 0 where
  appends : Appends byte → IsKey byte
  erases : byte ≡ 8 → IsKey byte
  empties : byte ≡ 24 → IsKey byte
  enter : byte ≡ 10 → IsKey byte

-- The table: number, "given exactly when". `Sound` says that the desk is sound; what is typed on the bench's line, how many bytes it has, which items another
-- bench owns, and how many bytes of the log are unused are arguments too, since document 01 reads the table twice: of a desk, and of what a sequence of calls
-- has typed and entered.
module _ (Sound : Type 0) (line : List ℕ) (size : ℕ) (OfAnother : ℕ → Type 0) (unused bench byte : ℕ) where
  abbrev Enter : Type 0 → Type 0
  Enter c = (byte ≡ 10) × c

  abbrev pub key_table : List Refusal
  key_table =
      -- "the bench is not 0 to 3"
      1 when (bench < bench_count → ⊥) ∷
      -- "the desk is not sound"
      2 when (Sound → ⊥) ∷
      -- "the byte is none of those above"
      3 when (IsKey byte → ⊥) ∷
      -- "a byte to append meets a line of 80" (document 02, No. 6: of 200)
      4 when (Appends byte × (size ≡ line_most)) ∷
      -- "Enter: the line is not of the form below (the empty line too)"
      5 when Enter (BadForm line) ∷
      -- "Enter: the name is none of the ten"; document 02, No. 11 and 12: of the nineteen
      6 when Enter (UnknownName line) ∷
      -- "Enter: the value fails its item's kind"
      7 when Enter (WrongKind line) ∷
      -- document 02, No. 8: "9, item owned by another bench, after 7 and before 8"
      9 when Enter (OfItem line (λ item value. OfAnother item)) ∷
      -- "Enter: the record is longer than the unused part of the log"
      8 when Enter (OfItem line (λ item value. unused < record_length value)) ∷ []

-- an item of a desk is another bench's: it is filled, and holds another bench
abbrev pub HeldByAnother : ℕ → Item → Type 0
HeldByAnother bench i = (1 ≤ i.len) × (i.bench ≡ bench → ⊥)

-- the table of a key call on a desk; the item is of the bench's own sheet (document 02, No. 9: "ownership and entry counts are per sheet")
abbrev pub desk_table : Desk → ℕ → List ℕ → ℕ → ℕ → List Refusal
desk_table d used log bench byte =
    key_table (Sound d × SoundWith d (length log) used) (typed (line_at d bench)) (line_at d bench).len
    (λ item. HeldByAnother bench (own_item d bench item)) (length log - used) bench byte

-- memory of another length than a desk's is no desk, and so not a sound one
abbrev pub SoundLent : List ℕ → List ℕ → Type 0
SoundLent t n = Sized t n × Sound (desk_of t n)

-- the table of a key call on the desk in lent memory, texts t and numbers n
abbrev pub lent_table : List ℕ → List ℕ → List ℕ → ℕ → ℕ → List Refusal
lent_table t n log bench byte =
    key_table (SoundLent t n × SoundWith (desk_of t n) (length log) (used_of n)) (typed (line_at (desk_of t n) bench)) (line_at (desk_of t n) bench).len
    (λ item. HeldByAnother bench (own_item (desk_of t n) bench item)) (length log - used_of n) bench byte
