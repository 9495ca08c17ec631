-- One entry more on a desk in lent memory: what `with_entry_on` says of the desk that the memory holds.
-- Assumes nothing.
use Rattle.std.specs.Prelude.{◌≡◌, ℕ, ◌+◌, ◌<◌, Bool, true, false, ◌&&◌, List, [], ◌∷◌, ltb, leb, length, get_or}
use Rattle.line_items.specs.Typed.{line_most}
use Rattle.line_items.specs.Items.{item_count, is_item}
use Rattle.desk_state.specs.Desks.{bench_count, sheet_of_bench, sheet_at}
use Rattle.desk_memory.specs.Memory.{item_numbers, count_at, is_desk, slot, desk_of, used_of}
use Rattle.desk_soundness.specs.SoundLog.{log_most}
use Rattle.desk_entries.specs.Entry.{with_entry_on, own_item}

-- texts t and numbers n can take an entry: they are a desk's, there are such a bench and such an item, the value is no longer than a line, and what the entry
-- adds 1 to, the count of the bench's sheet and how often its item was named, is below the length of the longest log
unfoldable pub takes : List ℕ → List ℕ → ℕ → ℕ → List ℕ → Bool
takes t n bench item v =
    is_desk t n && (ltb bench bench_count && (is_item item && (leb (length v) line_most
    && (ltb (sheet_at (desk_of t n) (sheet_of_bench bench)).count log_most && ltb (own_item (desk_of t n) bench item).times log_most))))

-- one entry more stored in t and n, with the number of used bytes after its record, which leaves t' and n'; memory that cannot take it stays as it is
pub record EntryLent (t n : List ℕ) (bench item : ℕ) (v : List ℕ) (used : ℕ) (t' n' : List ℕ) : Type 0 where
  pub taken : takes t n bench item v ≡ true → (desk_of t' n' ≡ with_entry_on (desk_of t n) bench item v) × (used_of n' ≡ used)
  pub not_taken : takes t n bench item v ≡ false → (t' ≡ t) × (n' ≡ n)
  pub same_length : (length t' ≡ length t) × (length n' ≡ length n)

-- of a sheet's block, what an entry at place k adds 1 to has room for it: the count, and how often the item was named
pub record Few (n : List ℕ) (k : ℕ) : Type 0 where
  pub count : get_or n count_at 0 < log_most
  pub times : get_or (slot item_numbers n k) 3 0 < log_most

-- the numbers of a sheet's block with one entry more, at place k
pub record EntryNumbers (n : List ℕ) (k len bench : ℕ) (n' : List ℕ) : Type 0 where
  pub here : slot item_numbers n' k ≡ len ∷ (get_or n count_at 0 + 1) ∷ bench ∷ (get_or (slot item_numbers n k) 3 0 + 1) ∷ []
  pub others : (j : ℕ) → j < item_count → (j ≡ k → ⊥) → slot item_numbers n' j ≡ slot item_numbers n j
  pub count : get_or n' count_at 0 ≡ get_or n count_at 0 + 1
