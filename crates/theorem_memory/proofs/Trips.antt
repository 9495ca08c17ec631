-- Every file that is written of lent memory has its round trip in lent memory.
-- Assumes nothing.
use mathlib.Core.Path.{◌≡◌, refl, sym, ap, ◌∙◌}
use mathlib.Core.Bool.{Bool, true, false}
use mathlib.Core.List.{List, map}
use Prim.Native.Nat.{ℕ, ◌≤◌, ◌<◌}
use native.Mathlib.Omega.{arith}
use borrow.Author.Tests.{ltb-true}
use lib.ListN.{length}
use Rattle.rows.specs.declared.Rows.{Rows}
use Rattle.desk_state.specs.Sheets.{item_at, value_in}
use Rattle.desk_state.specs.Desks.{bench_count, sheet_count, sheet_of_bench, is_sheet, sheet_at}
use Rattle.desk_memory.specs.Memory.{is_desk, desk_of}
use Rattle.desk_memory.proofs.Desks.{desk-sized}
use Rattle.desk_soundness.specs.SoundLog.{log_most}
use Rattle.file_cif.specs.Answers.{Filing, file_step, file_lent}
use Rattle.theorem_work.specs.Calls.{Call, Reply}
use Rattle.theorem_sequences.specs.Calls.{State}
use Rattle.theorem_round_trip.specs.RoundTrip.{filed_bytes, room_for, RoundTrip}
use Rattle.theorem_round_trip.proofs.Trip.{round_trip}
use Rattle.theorem_memory.specs.Runs.{Memory, fresh_memory, Run}
use Rattle.theorem_memory.specs.RoundTrips.{file_keys, MemoryRoundTrip}
use Rattle.theorem_memory.proofs.Shapes.{shaped-desk}
use Rattle.theorem_memory.proofs.Follows.{memory-demand-3}

module _ (t n : List ℕ) (sheet : ℕ) (name out : List ℕ) where
  -- memory of which a file is written is a desk
  file-desk : (file_lent t n sheet name out).answer ≡ 0 → is_desk t n ≡ true
  unfolding file_lent
  file-desk e = go (is_desk t n) (is_sheet sheet) refl refl
    where
      go : (b s : Bool) → is_desk t n ≡ b → is_sheet sheet ≡ s → is_desk t n ≡ true
      go true s d x = d
      go false true d x = let z : ◌≡◌ {A = ℕ} 2 0 = simp (d, x) at e in absurd (omega arith)
      go false false d x = let z : ◌≡◌ {A = ℕ} 12 0 = simp (d, x) at e in absurd (omega arith)

  file-is : is_desk t n ≡ true → file_lent t n sheet name out ≡ file_step (desk_of t n) sheet name out
  unfolding file_lent
  file-is d = simp d

  -- of a sheet that is there
  file-sheet : (file_step (desk_of t n) sheet name out).answer ≡ 0 → sheet < sheet_count
  unfolding file_step
  file-sheet e = go (is_sheet sheet) refl
    where
      go : (s : Bool) → is_sheet sheet ≡ s → sheet < sheet_count
      go true x = ltb-true sheet sheet_count x
      go false x = let z : ◌≡◌ {A = ℕ} 12 0 = simp x at e in absurd (omega arith)

  pub memory-round-trip : (bench : ℕ) (log : List ℕ) {ps : List (Call × Reply Rows)} {m : Memory} → (file_lent t n sheet name out).answer ≡ 0
      → bench < bench_count → length log ≤ log_most → room_for (sheet_at (desk_of t n) sheet).items ≤ length log → Run (fresh_memory log) (file_keys t n sheet name out bench) ps m
      → MemoryRoundTrip t n sheet name out bench ps m
  memory-round-trip bench log {ps} {m} e b small room run =
      let d = file-desk e in
      let f = file-is d in
      let answer = ap (λ (x : Filing). x.answer) (sym f) ∙ e in
      let trip = round_trip (desk_of t n) sheet name out bench log ((shaped-desk t n (desk-sized t n d)).items sheet (file-sheet answer)) answer b small room in
      let whole : RoundTrip (sheet_at (desk_of t n) sheet) (filed_bytes (file_lent t n sheet name out)) bench log = rw f trip in
      let s = memory-demand-3 log run in
      let own = sheet_of_bench bench in
      record {
        accepted = ap (map (λ (p : Call × Reply Rows). p.1)) s.answers ∙ whole.accepted;
        values = λ k some known. ap (λ (x : State). value_in (item_at (sheet_at x.desk own) k)) s.state ∙ whole.values k some known;
        count = ap (λ (x : State). (sheet_at x.desk own).count) s.state ∙ whole.count;
        elsewhere = λ other on n. ap (λ (x : State). sheet_at x.desk other) s.state ∙ whole.elsewhere other on n;
      }
