-- A whole record judged, and stored where it is taken, on a desk in lent memory.
-- Assumes nothing.
use Rattle.std.specs.Prelude.{◌≡◌, ℕ, ◌+◌, true, false, List, length}
use Rattle.desk_memory.specs.Memory.{is_desk, desk_of, used_of}
use Rattle.desk_entries.specs.Lent.{takes}
use Rattle.desk_log.specs.Record.{bench_told, item_told, value_told}
use Rattle.reader_entries.specs.Judged.{refusal_of, store_of}

-- a record r that starts at the used number of texts t and numbers n, which gets the answer a and leaves t' and n'
pub record RecordLent (t n r : List ℕ) (a : ℕ) (t' n' : List ℕ) : Type 0 where
  pub answer : is_desk t n ≡ true → a ≡ refusal_of (used_of n) r (desk_of t n)
  -- a record that is taken is stored, and the used number is its end, where the memory can take an entry: on a sound desk it can
  pub stored : a ≡ 0 → takes t n (bench_told r) (item_told r) (value_told r) ≡ true → (desk_of t' n' ≡ store_of r (desk_of t n)) × (used_of n' ≡ used_of n + length r)
  pub full : takes t n (bench_told r) (item_told r) (value_told r) ≡ false → (t' ≡ t) × (n' ≡ n)
  -- a record that is refused changes nothing, and nothing is taken by memory that is no desk
  pub refused : (a ≡ 0 → ⊥) → (t' ≡ t) × (n' ≡ n)
  pub no_desk : is_desk t n ≡ false → (a ≡ 0 → ⊥)
  pub same_length : (length t' ≡ length t) × (length n' ≡ length n)
