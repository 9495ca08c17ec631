-- Calls on a desk in lent memory, one after the other: each step is what the contract of its function says (document 01, "Sequences of calls").
-- Assumes nothing.
use Rattle.std.specs.Prelude.{◌≡◌, true, List, [], ◌∷◌, ℕ, ◌≤◌, ◌<◌, length, take, replicate}
use Rattle.line_items.specs.Items.{item_count}
use Rattle.desk_state.specs.Sheets.{item_at}
use Rattle.desk_state.specs.Desks.{sheet_count, sheet_of_bench, line_at, sheet_at}
use Rattle.rows.specs.Rows.{no_rows}
use Rattle.rows.specs.declared.Rows.{Rows}
use Rattle.rows_sheet.specs.Sheet.{rows_of}
use Rattle.desk_memory.specs.Memory.{texts_length, numbers_length}
use Rattle.desk_soundness.specs.SoundMemory.{sound_memory, sound_for_keys}
use Rattle.desk_keys.specs.Lent.{KeyLent}
use Rattle.desk_questions.specs.Report.{Report, report_lent}
use Rattle.desk_questions.specs.Who.{Who, who_lent}
use Rattle.desk_session.specs.Lent.{held}
use Rattle.theorem_work.specs.Calls.{Call, key, ask, report, who, Reply, keyed, reported, told}
use Rattle.theorem_work.specs.Gather.{gather_answered}
use Rattle.theorem_work.specs.Work.{entries_of}
use Rattle.theorem_work.specs.Camps.{answers_of}
use Rattle.theorem_work.specs.Logged.{records_naming}
use Rattle.theorem_work.specs.Owning.{OneOwner}
use Rattle.theorem_sequences.specs.Calls.{State}
use Rattle.theorem_sequences.specs.Sequences.{Sequences, desk_answers, state_after, work_after}

-- what is lent to a call
pub record Memory : Type 0 where
  pub texts : List ℕ
  pub numbers : List ℕ
  pub log : List ℕ

-- the state that it holds
abbrev pub state_in : Memory → State
state_in m = held m.texts m.numbers m.log

-- memory of zeros, and a log
abbrev pub fresh_memory : List ℕ → Memory
fresh_memory log = record { texts = replicate texts_length 0; numbers = replicate numbers_length 0; log = log }

-- a call, the memory before it, its answer, and the memory after it: what `desk_keys::key`, `desk_questions::report::report` and `desk_questions::who::who` ensure
pub data Lends : Call → Memory → Reply Rows → Memory → Type 0 where
  a_key : {m m' : Memory} {bench byte a : ℕ} → KeyLent m.texts m.numbers m.log bench byte a m'.texts m'.numbers m'.log
      → Lends (key bench byte) m (keyed a) m'
  a_report : {m : Memory} {sheet profile : ℕ} {r : Report} → r ≡ report_lent m.texts m.numbers sheet profile
      → Lends (ask (report sheet profile)) m (reported r.answer r.rows) m
  a_who : {m : Memory} {sheet item : ℕ} {r : Who} → r ≡ who_lent m.texts m.numbers sheet item → Lends (ask (who sheet item)) m (told r) m

-- calls, "Each call gets the desk and log as the last one left them"
pub data Run : Memory → List Call → List (Call × Reply Rows) → Memory → Type 0 where
  done : {m : Memory} → Run m [] [] m
  call : {m m' m'' : Memory} {c : Call} {r : Reply Rows} {cs : List Call} {ps : List (Call × Reply Rows)} → Lends c m r m' → Run m' cs ps m''
      → Run m (c ∷ cs) ((c, r) ∷ ps) m''

-- demand 3 of a run from zeros: its answers and the state that it leaves are those of which `Sequences` is the claim
pub record MemorySequence (log : List ℕ) (cs : List Call) (ps : List (Call × Reply Rows)) (m : Memory) : Type 0 where
  pub answers : ps ≡ desk_answers rows_of no_rows log cs
  pub state : state_in m ≡ state_after rows_of no_rows log cs
  pub sequences : Sequences rows_of no_rows log cs
  -- document 02, No. 7: "on any desk grown from a fresh one, its records in the used log", of the bytes that are lent; No. 9: its own
  -- sheet's records
  pub logged : (sheet k : ℕ) → sheet < sheet_count → 1 ≤ k → k ≤ item_count
      → (item_at (sheet_at (state_in m).desk sheet) k).times ≡ records_naming sheet k (take (state_in m).used m.log)
  -- document 02, No. 8: each item that is lent is nobody's and empty, or holds its one owner
  pub one_owner : (sheet k : ℕ) → sheet < sheet_count → 1 ≤ k → k ≤ item_count
      → OneOwner (entries_of sheet (work_after rows_of no_rows log cs).entries) k (item_at (sheet_at (state_in m).desk sheet) k)

-- demand 3 in bytes: calls run from zeros and a log, and the same calls gathered, from zeros and an equal log; every call gets the answer that it got before, and
-- all bytes of desk and log are equal
pub record MemoryGathered (ps : List (Call × Reply Rows)) (m : Memory) (qs : List (Call × Reply Rows)) (m' : Memory) : Type 0 where
  pub gathered_answers : qs ≡ gather_answered ps
  pub gathered_memory : m' ≡ m

-- document 02, No. 9, of two runs from zeros and equal logs: "that camp's answers, sheet and lines are equal", in what the memory then holds
pub record MemorySameForCamp (camp : ℕ) (ps : List (Call × Reply Rows)) (m : Memory) (qs : List (Call × Reply Rows)) (m' : Memory) : Type 0 where
  pub answers : answers_of camp ps ≡ answers_of camp qs
  pub sheet : sheet_at (state_in m).desk camp ≡ sheet_at (state_in m').desk camp
  pub lines : (bench : ℕ) → sheet_of_bench bench ≡ camp → line_at (state_in m).desk bench ≡ line_at (state_in m').desk bench

-- soundness is kept by a key call, for questions and for key calls
pub record MemoryKept (t n log t' n' log' : List ℕ) : Type 0 where
  pub for_questions : sound_memory t n ≡ true → sound_memory t' n' ≡ true
  pub for_keys : sound_for_keys t n (length log) ≡ true → sound_for_keys t' n' (length log') ≡ true
