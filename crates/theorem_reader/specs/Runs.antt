-- Parts fed to a desk and a reader in lent memory, one after the other: each step is what the contract of `reader_feed::feed` says. The theorem of a run is `memory-parts`
-- (proofs/Runs.antt); those of one part are `lent-feed-table`, `lent-feed-places`, `idle-same` and `lent-repeats` (proofs/Lent.antt).
-- Assumes nothing.
use Rattle.std.specs.Prelude.{ℕ, ◌≡◌, true, List, [], ◌∷◌, ◌++◌, replicate}
use Rattle.desk_memory.specs.Memory.{texts_length, numbers_length, Sized, desk_of, used_of}
use Rattle.reader_memory.specs.Memory.{reader_kept, reader_state, kept_in, stands_at}
use Rattle.reader_feed.specs.Feed.{FeedLent}
use Rattle.theorem_refusals.specs.Table.{Refusal}
use Rattle.theorem_reader.specs.Parts.{Between, LogPart, fresh, after_parts, part_answers}
use Rattle.theorem_reader.specs.Sound.{SoundReader}
use Rattle.theorem_reader.specs.Table.{feed_table, Placed}

-- what is lent to a call
pub record Memory : Type 0 where
  pub texts : List ℕ
  pub numbers : List ℕ
  pub kept : List ℕ
  pub state : List ℕ

-- what it holds
abbrev pub between_in : Memory → Between
between_in m = record { desk = desk_of m.texts m.numbers; used = used_of m.numbers; kept = m.kept; state = m.state }

-- zeros
abbrev pub fresh_memory : Memory
fresh_memory = record {
  texts = replicate texts_length 0;
  numbers = replicate numbers_length 0;
  kept = replicate reader_kept 0;
  state = replicate reader_state 0;
}

-- a part fed to lent memory m, with its answer a and place, leaves m': the contract
abbrev pub FedIn : Memory → LogPart → ℕ → ℕ → Memory → Type 0
FedIn m c a place m' = FeedLent m.texts m.numbers m.kept m.state c.0 c.1 a place m'.texts m'.numbers m'.kept m'.state

-- memory of another length than a desk's is no desk, and so not a sound one
abbrev pub SoundIn : Memory → Type 0
SoundIn m = Sized m.texts m.numbers × SoundReader (between_in m).desk (between_in m).used m.kept m.state

-- the bytes that a part gives to read: those kept, and then its own
abbrev pub bytes_in : Memory → LogPart → List ℕ
bytes_in m c = kept_in m.kept m.state ++ c.0

-- the table of a part, and its place, of lent memory
abbrev pub lent_feed_table : Memory → LogPart → List Refusal
lent_feed_table m c = feed_table (SoundIn m) (between_in m).desk (between_in m).used (bytes_in m c) c.1

abbrev pub LentPlaced : Memory → LogPart → ℕ → ℕ → Type 0
LentPlaced m c a place = Placed (between_in m).desk (between_in m).used (bytes_in m c) a place

-- a part that may change nothing: one that is refused with 2, and one after the end
pub data Idle (m : Memory) (a : ℕ) : Type 0 where
  unsound : a ≡ 2 → Idle m a
  over : (stands_at m.state ≡ 0 → ⊥) → Idle m a

-- "with 2 the whole part changes nothing", "parts after it, or after the last part, change nothing": every byte and every number is as it was
abbrev pub IdleSame : Memory → LogPart → ℕ → ℕ → Memory → Type 0
IdleSame m c a place m' = FedIn m c a place m' → Idle m a → m' ≡ m

-- a part that is refused, or marked as the last
pub data EndsIn (c : LogPart) (a : ℕ) : Type 0 where
  with_refusal : (a ≡ 0 → ⊥) → EndsIn c a
  with_last : c.1 ≡ true → EndsIn c a

-- "parts after it, or after the last part, change nothing and repeat its answer": the part e after such a part c
pub record Repeated (a place : ℕ) (m : Memory) (a' place' : ℕ) (m' : Memory) : Type 0 where
  pub answer : a' ≡ a
  pub place_too : place' ≡ place
  pub memory : m' ≡ m

-- parts, each with its answer and place
pub data Run : Memory → List LogPart → List (ℕ × ℕ) → Memory → Type 0 where
  done : {m : Memory} → Run m [] [] m
  feeds : {m m' m'' : Memory} {c : LogPart} {a place : ℕ} {cs : List LogPart} {xs : List (ℕ × ℕ)}
      → FedIn m c a place m' → Run m' cs xs m''
      → Run m (c ∷ cs) ((a, place) ∷ xs) m''

-- a run from zeros: its answers and what it leaves are those of which `PartsAgree`, `NeverUnsound` and `StoresBefore` are claims
pub record MemoryParts (cs : List LogPart) (xs : List (ℕ × ℕ)) (m : Memory) : Type 0 where
  pub answers : xs ≡ part_answers fresh cs
  pub left_so : between_in m ≡ after_parts fresh cs
