-- The camps do not see each other (document 02, No. 9), in lent memory.
-- Assumes nothing.
use mathlib.Core.Path.{◌≡◌, sym, ap, ◌∙◌}
use mathlib.Core.Bool.{true}
use mathlib.Core.List.{List}
use Prim.Native.Nat.{ℕ}
use Rattle.rows.specs.declared.Rows.{Rows}
use Rattle.desk_state.specs.Desks.{line_at, sheet_at}
use Rattle.theorem_work.specs.Calls.{Call, Reply}
use Rattle.theorem_work.specs.Camps.{own_calls, answers_of, none_full}
use Rattle.theorem_sequences.specs.Calls.{State}
use Rattle.theorem_sequences.proofs.Desk.{desk-two-runs}
use Rattle.theorem_memory.specs.Runs.{Memory, state_in, fresh_memory, Run, MemorySameForCamp}
use Rattle.theorem_memory.proofs.Follows.{memory-demand-3}

pub memory-two-runs : (log : List ℕ) (camp : ℕ) {cs ds : List Call} {ps qs : List (Call × Reply Rows)} {m m' : Memory}
    → Run (fresh_memory log) cs ps m → Run (fresh_memory log) ds qs m' → own_calls camp cs ≡ own_calls camp ds → none_full ps ≡ true → none_full qs ≡ true
    → MemorySameForCamp camp ps m qs m'
memory-two-runs log camp {cs} {ds} run other e h g =
    let a = memory-demand-3 log run in
    let b = memory-demand-3 log other in
    let r = desk-two-runs log camp cs ds e (ap none_full (sym a.answers) ∙ h) (ap none_full (sym b.answers) ∙ g) in
    record {
      answers = ap (answers_of camp) a.answers ∙ r.answers ∙ sym (ap (answers_of camp) b.answers);
      sheet = ap (λ (s : State). sheet_at s.desk camp) a.state ∙ r.sheet ∙ sym (ap (λ (s : State). sheet_at s.desk camp) b.state);
      lines = λ bench on. ap (λ (s : State). line_at s.desk bench) a.state ∙ r.lines bench on ∙ sym (ap (λ (s : State). line_at s.desk bench) b.state);
    }
