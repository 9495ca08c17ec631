-- Whose an item is, by the accepted entries (document 02, No. 8): "The bench whose entry first fills an item owns it, also if that value was unassigned; nobody
-- else may write it". No value is looked at, so an unassigned one fills an item as any other does.
-- Assumes nothing.
use Rattle.std.specs.Prelude.{ℕ, ◌≤◌, ◌≡◌, List, [], ◌∷◌, ◌++◌}
use Rattle.desk_state.specs.Sheets.{empty_item}
use Rattle.desk_state.specs.declared.sheet.Item.{Item}
use Rattle.theorem_work.specs.Work.{Entry, times_of}

-- "The bench whose entry first fills an item owns it"; entries stand newest first
pub record Owns (es : List Entry) (item bench : ℕ) : Type 0 where
  pub later : List Entry
  pub first : Entry
  pub before : List Entry
  pub parts : es ≡ later ++ (first ∷ before)
  pub names : first.item ≡ item
  pub of_bench : first.bench ≡ bench
  pub none_before : times_of before item ≡ 0

-- "item owned by another bench"
pub record OwnedByAnother (es : List Entry) (bench item : ℕ) : Type 0 where
  pub owner : ℕ
  pub owns : Owns es item owner
  pub other : owner ≡ bench → ⊥

-- all accepted entries that name the item are of that bench
abbrev pub AllOf : List Entry → ℕ → ℕ → Type 0
AllOf [] item bench = Unit {0}
AllOf (e ∷ es) item bench = (e.item ≡ item → e.bench ≡ bench) × AllOf es item bench

-- Why an item needs no further field: no accepted entry names it and it is empty, or all accepted entries that name it are of one bench, that of the first, and
-- the item, which is then filled, holds it. That it is so after every sequence is `one_owner` (theorem_sequences/proofs/Owners.antt).
pub data OneOwner (es : List Entry) (item : ℕ) (i : Item) : Type 0 where
  nobodys : times_of es item ≡ 0 → i ≡ empty_item → OneOwner es item i
  somebodys : (bench : ℕ) → Owns es item bench → AllOf es item bench → 1 ≤ i.len → i.bench ≡ bench → OneOwner es item i
