-- Demand 3 in bytes: runs of a sequence and of the same sequence gathered leave equal memory, since memory holds nothing but its desk.
-- Assumes nothing.
use mathlib.Core.Path.{◌≡◌, sym, ap, ◌∙◌}
use mathlib.Core.List.{List}
use Prim.Native.Nat.{ℕ}
use Rattle.rows.specs.declared.Rows.{Rows}
use Rattle.desk_memory.specs.Memory.{desk_of, used_of}
use Rattle.desk_memory.proofs.Desks.{zeros-fresh, desk-sized}
use Rattle.desk_memory.proofs.Whole.{same-texts, same_numbers}
use Rattle.theorem_work.specs.Calls.{Call, Reply}
use Rattle.theorem_work.specs.Gather.{gather, gather_answered}
use Rattle.theorem_sequences.specs.Calls.{State}
use Rattle.theorem_memory.specs.Runs.{Memory, state_in, fresh_memory, Run, MemoryGathered}
use Rattle.theorem_memory.proofs.Follows.{IsDesk, run-kept, memory-demand-3}

memory-of : List ℕ → List ℕ → List ℕ → Memory
memory-of t n log = record { texts = t; numbers = n; log = log }

-- memory that is a desk's is told by the state that it holds
pub same_memory : (m m' : Memory) → IsDesk m → IsDesk m' → state_in m ≡ state_in m' → m ≡ m'
unfolding memory-of
same_memory m m' d d' e =
    let z = desk-sized m.texts m.numbers d in
    let z' = desk-sized m'.texts m'.numbers d' in
    let same : desk_of m.texts m.numbers ≡ desk_of m'.texts m'.numbers = ap (λ (s : State). s.desk) e in
    let used : used_of m.numbers ≡ used_of m'.numbers = ap (λ (s : State). s.used) e in
    ap (λ (t : List ℕ). memory-of t m.numbers m.log) (same-texts m.texts m.numbers m'.texts m'.numbers z z' same used)
    ∙ ap (λ (n : List ℕ). memory-of m'.texts n m.log) (same_numbers m.texts m.numbers m'.texts m'.numbers z z' same used)
    ∙ ap (λ (l : List ℕ). memory-of m'.texts m'.numbers l) (ap (λ (s : State). s.log) e)

pub memory-gathered : (log : List ℕ) {cs : List Call} {ps qs : List (Call × Reply Rows)} {m m' : Memory} → Run (fresh_memory log) cs ps m
    → Run (fresh_memory log) (gather cs) qs m' → MemoryGathered ps m qs m'
memory-gathered log {m = m} {m' = m'} run moved =
    let first = memory-demand-3 log run in
    let then = memory-demand-3 log moved in
    let claim = first.sequences in
    record {
      gathered_answers = then.answers ∙ claim.gathered_answers ∙ ap gather_answered (sym first.answers);
      gathered_memory = same_memory m' m (run-kept zeros-fresh.0 moved) (run-kept zeros-fresh.0 run)
          (then.state ∙ claim.gathered_state ∙ sym first.state);
    }
