-- Every run on memory of zeros is the sequence of calls that demand 3 speaks of.
-- Assumes nothing.
use mathlib.Core.Path.{◌≡◌, refl, sym, ap, ◌∙◌, subst⁻¹}
use mathlib.Core.Bool.{true}
use mathlib.Core.List.{List, ◌∷◌}
use Prim.Native.Nat.{ℕ}
use lib.ListN.{take}
use Rattle.rows.specs.Rows.{no_rows}
use Rattle.rows.specs.declared.Rows.{Rows}
use Rattle.rows_sheet.specs.Sheet.{rows_of}
use Rattle.desk_state.specs.Sheets.{item_at}
use Rattle.desk_state.specs.Desks.{sheet_at}
use Rattle.desk_state.specs.declared.desk.Desk.{Desk}
use Rattle.desk_memory.specs.Memory.{is_desk, desk_of}
use Rattle.desk_memory.proofs.Desks.{zeros-fresh, still-desk}
use Rattle.desk_keys.specs.Key.{After}
use Rattle.desk_questions.specs.Report.{Report, report_lent, reported_of}
use Rattle.desk_questions.specs.Who.{Who, who_lent, who_of}
use Rattle.theorem_work.specs.Calls.{Call, Reply, keyed, reported, told, answered, final}
use Rattle.theorem_work.specs.Work.{entries_of}
use Rattle.theorem_work.specs.Logged.{records_naming}
use Rattle.theorem_work.specs.Owning.{OneOwner}
use Rattle.theorem_sequences.specs.Calls.{State, state_of, fresh_state, left_by_key, step}
use Rattle.theorem_sequences.specs.Sequences.{work_after}
use Rattle.theorem_sequences.proofs.Desk.{desk-sequences, desk-one-owner, report-is}
use Rattle.theorem_memory.specs.Runs.{Memory, state_in, fresh_memory, Lends, a_key, a_report, a_who, Run, done, call, MemorySequence}

abbrev pub IsDesk : Memory → Type 0
IsDesk m = is_desk m.texts m.numbers ≡ true

-- one call is a step of the definitions, and leaves memory that is a desk's
record Stepped (c : Call) (m : Memory) (r : Reply Rows) (m' : Memory) : Type 0 where
  pub kept : IsDesk m'
  pub is : step rows_of no_rows c (state_in m) ≡ (r, state_in m')

one : {c : Call} {m : Memory} {r : Reply Rows} {m' : Memory} → IsDesk m → Lends c m r m' → Stepped c m r m'
unfolding who_lent report_lent
one {m = m} {m' = m'} d (a_key k) = record {
  kept = still-desk m.texts m.numbers m'.texts m'.numbers k.same_length.0 k.same_length.1 ∙ d;
  is = sym (ap (λ (x : After). (keyed x.answer, left_by_key x)) (k.desk d));
}
one {m = m} d (a_report {sheet = sheet} {profile = profile} {r = r} e) =
    let q : r ≡ reported_of (desk_of m.texts m.numbers) sheet profile = e ∙ simp d in
    record { kept = d; is = ap (λ (x : Reply Rows). (x, state_in m)) (report-is (desk_of m.texts m.numbers) sheet profile ∙ sym (ap (λ (x : Report). reported x.answer x.rows) q)) }
one {m = m} d (a_who {sheet = sheet} {item = item} {r = r} e) =
    let q : r ≡ who_of (desk_of m.texts m.numbers) sheet item = e ∙ simp d in
    record { kept = d; is = ap (λ (x : Who). (told x, state_in m)) (sym q) }

-- all calls
pub run_is : {m m' : Memory} {cs : List Call} {ps : List (Call × Reply Rows)} → IsDesk m → Run m cs ps m'
    → (answered (step rows_of no_rows) (state_in m) cs ≡ ps) × (final (step rows_of no_rows) (state_in m) cs ≡ state_in m')
run_is d done = (refl, refl)
run_is d (call {c = c} {r = r} {cs = cs} l rest) =
    let s = one d l in
    let more = run_is s.kept rest in
    let e = s.is in (
      ap (λ (x : Reply Rows × State). (c, x.0) ∷ answered (step rows_of no_rows) x.1 cs) e ∙ ap (λ (ps : List (Call × Reply Rows)). (c, r) ∷ ps) more.0,
      ap (λ (x : Reply Rows × State). final (step rows_of no_rows) x.1 cs) e ∙ more.1,
    )

-- and memory that is a desk's stays one
pub run-kept : {m m' : Memory} {cs : List Call} {ps : List (Call × Reply Rows)} → IsDesk m → Run m cs ps m' → IsDesk m'
run-kept d done = d
run-kept d (call l rest) = run-kept (one d l).kept rest

-- memory of zeros holds the fresh state
pub fresh-held : (log : List ℕ) → state_in (fresh_memory log) ≡ fresh_state log
fresh-held log = ap (λ (d : Desk). state_of d 0 log) zeros-fresh.1

-- demand 3 for calls on lent memory
pub memory-demand-3 : (log : List ℕ) {cs : List Call} {ps : List (Call × Reply Rows)} {m : Memory} → Run (fresh_memory log) cs ps m → MemorySequence log cs ps m
memory-demand-3 log {cs} run =
    let r = run_is zeros-fresh.0 run in
    let e = fresh-held log in
    let state = sym r.1 ∙ ap (λ (s : State). final (step rows_of no_rows) s cs) e in
    let all = desk-sequences log cs in
    record {
      answers = sym r.0 ∙ ap (λ (s : State). answered (step rows_of no_rows) s cs) e;
      state = state;
      sequences = all;
      logged = λ sheet k on some known.
          subst⁻¹ (λ (s : State). (item_at (sheet_at s.desk sheet) k).times ≡ records_naming sheet k (take s.used s.log)) state (all.logged sheet k on some known);
      one_owner = λ sheet k on some known.
          subst⁻¹ (λ (s : State). OneOwner (entries_of sheet (work_after rows_of no_rows log cs).entries) k (item_at (sheet_at s.desk sheet) k)) state
          (desk-one-owner log cs sheet k on some known);
    }
