-- The key call on a desk in lent memory: what `key_of` says of the desk that the memory holds.
-- Assumes nothing.
use Rattle.std.specs.Prelude.{◌≡◌, ℕ, ◌<◌, ◌≤◌, true, false, cond, List, ltb, length, get_or}
use Rattle.line_items.specs.Typed.{line_most}
use Rattle.line_items.specs.Items.{item_count}
use Rattle.desk_state.specs.Desks.{bench_count}
use Rattle.desk_memory.specs.Memory.{Sized, is_desk, desk_of, used_of}
use Rattle.desk_entries.specs.Lent.{takes}
use Rattle.desk_keys.specs.Key.{After, key_of}

-- everything that a call leaves: the answer's number, and the desk, the used number and the log as the memory then holds them
abbrev pub leaves : ℕ → List ℕ → List ℕ → List ℕ → After
leaves a t n log = record { answer = a; desk = desk_of t n; used = used_of n; log = log }

-- a key call on texts t, numbers n and a log, which answers a and leaves t', n' and log'; memory that is no desk is unsound, and stays as it is
pub record KeyLent (t n log : List ℕ) (bench byte a : ℕ) (t' n' log' : List ℕ) : Type 0 where
  pub desk : is_desk t n ≡ true → leaves a t' n' log' ≡ key_of (desk_of t n) (used_of n) log bench byte
  pub no_desk : is_desk t n ≡ false → (a ≡ cond (ltb bench bench_count) 2 1) × (t' ≡ t) × (n' ≡ n) × (log' ≡ log)
  pub same_length : (length t' ≡ length t) × (length n' ≡ length n)

-- what the step of a key is given: memory that holds a sound desk with its log
pub record Lent (t n log : List ℕ) (bench : ℕ) : Type 0 where
  pub sized : Sized t n
  pub bench_in : bench < bench_count
  pub short : get_or n bench 0 ≤ line_most
  pub room : used_of n ≤ length log
  pub takes_entry : (item : ℕ) (v : List ℕ) → 1 ≤ item → item ≤ item_count → length v ≤ line_most → takes t n bench item v ≡ true
