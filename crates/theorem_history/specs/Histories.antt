-- Histories: accepted entries in order, and the log that they leave (document 02, No. 14). That a log has one history is `same-history` and `beginning`
-- (proofs/Unique.antt); that reading the log gives it is `history-told`, and that noting entries changes no reading `notes-beside` (proofs/Back.antt).
-- Assumes nothing.
use Rattle.std.specs.Prelude.{ℕ, ◌+◌, ◌≤◌, ◌≡◌, List, [], ◌∷◌, ◌++◌, length, get_or, drop}
use Rattle.desk_log.specs.Record.{head_length, record_length, record_of}
use Rattle.reader_cuts.specs.Reading.{length_most, Reading, read_whole}

-- "accepted entries (bench, item, value as typed)"
pub record Noted : Type 0 where
  pub bench : ℕ
  pub item : ℕ
  pub value : List ℕ

-- an entry's record
abbrev pub record_for : Noted → List ℕ
record_for e = record_of e.bench e.item e.value

-- the records of the entries in order, the oldest first: the used log that they leave from a fresh desk
abbrev pub records : List Noted → List ℕ
records [] = []
records (e ∷ es) = record_for e ++ records es

-- every entry has a value, and its record a length that a record may have
pub data Fitting : List Noted → Type 0 where
  none : Fitting []
  one : {e : Noted} {es : List Noted} → 1 ≤ length e.value → record_length e.value ≤ length_most → Fitting es → Fitting (e ∷ es)

-- es is a beginning of fs
pub data Begins (es fs : List Noted) : Type 0 where
  begins : (more : List Noted) → fs ≡ es ++ more → Begins es fs

-- entries, each taken on the sheets that those before it left, lead from the sheets s, with `at` bytes of the log used, to t
module _ {S : Type 0} (refusal : ℕ → List ℕ → S → ℕ) (store : List ℕ → S → S) where
  pub data Grown : S → ℕ → List Noted → S → Type 0 where
    still : {s : S} {at : ℕ} → Grown s at [] s
    entry : {s t : S} {at : ℕ} {e : Noted} {es : List Noted} → 1 ≤ length e.value → record_length e.value ≤ length_most
        → refusal at (record_for e) s ≡ 0 → Grown (store (record_for e) s) (at + record_length e.value) es t → Grown s at (e ∷ es) t

-- the entry that a record tells: bench, item, and the bytes after the head
abbrev pub told_by : List ℕ → Noted
told_by r = record { bench = get_or r 4 0; item = get_or r 5 0; value = drop head_length r }

abbrev pub noted : List ℕ → List Noted → List Noted
noted r es = es ++ (told_by r ∷ [])

-- the reader of No. 10, with its own judgement and its own sheets, that also notes the entry of each record that it stores
module _ {S : Type 0} (refusal : ℕ → List ℕ → S → ℕ) (store : List ℕ → S → S) where
  abbrev pub noting_refusal : ℕ → List ℕ → S × List Noted → ℕ
  noting_refusal at r s = refusal at r s.0

  abbrev pub noting_store : List ℕ → S × List Noted → S × List Noted
  noting_store r s = (store r s.0, noted r s.1)

  abbrev pub noting_whole : S → List ℕ → Reading (S × List Noted)
  noting_whole s log = read_whole noting_refusal noting_store (s, []) log

  -- the history that the reader finds in a log
  abbrev pub history_in : S → List ℕ → List Noted
  history_in s log = (noting_whole s log).sheets.1

  -- noting changes nothing of the reading: answer, place and sheets are the reader's
  pub record NotesBeside (s : S) (log : List ℕ) : Type 0 where
    pub answer : (noting_whole s log).answer ≡ (read_whole refusal store s log).answer
    pub at : (noting_whole s log).at ≡ (read_whole refusal store s log).at
    pub sheets : (noting_whole s log).sheets.0 ≡ (read_whole refusal store s log).sheets
