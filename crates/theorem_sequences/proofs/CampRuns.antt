-- The camps do not see each other: the sentence of specs/Camps.antt, from what a camp's own calls do alone.
-- Assumes nothing.
use mathlib.Core.Path.{◌≡◌, refl, sym, ap, ap₂, ◌∙◌}
use mathlib.Core.Bool.{Bool, true, false, cond}
use mathlib.Core.List.{List, [], ◌∷◌, map}
use Prim.Native.Nat.{ℕ, zero, suc}
use native.Mathlib.Omega.{arith}
use borrow.Author.Tests.{eq-eqb}
use lib.ListN.{length, get_or, replicate, length-map}
use Rattle.desk_state.specs.Lines.{line_of}
use Rattle.desk_state.specs.Desks.{bench_count, sheet_of_bench, no_line, no_sheet, line_at, sheet_at}
use Rattle.desk_state.specs.declared.sheet.Sheet.{Sheet}
use Rattle.theorem_work.specs.Calls.{Call, answered, final}
use Rattle.theorem_work.specs.Work.{Entry, Work, no_work, typed_by, on_sheet, entries_of, sheet_of, work_step}
use Rattle.theorem_work.specs.Camps.{own_calls, answers_of, kept_texts, restrict, none_full}
use Rattle.theorem_work.proofs.WorkLaws.{work-eq}
use Rattle.theorem_work.proofs.CampLaws.{kept-own, entries_twice}
use Rattle.theorem_work.proofs.Camps.{none-own, as-alone}
use Rattle.theorem_sequences.specs.Calls.{State}
use Rattle.theorem_sequences.specs.Sequences.{desk_answers, state_after, work_answers, work_after}
use Rattle.theorem_sequences.specs.Camps.{SameForCamp, TwoRuns, AsIfAlone}
use Rattle.theorem_sequences.proofs.Sheets.{sheets_of}
use Rattle.theorem_sequences.proofs.DeskFollows.{desk_of}
use Rattle.theorem_sequences.proofs.Demand3.{follows}

-- nothing typed and nothing entered is the same for every camp
kept-none : (p : ℕ → Bool) (n : ℕ) → kept_texts p (replicate n []) ≡ replicate n []
kept-none p zero = refl
kept-none p (suc n) = ap₂ (λ x r. x ∷ r) (same (p zero)) (kept-none (λ k. p (suc k)) n)
  where
    same : (b : Bool) → ◌≡◌ {A = List ℕ} (cond b [] []) []
    same true = refl
    same false = refl

none-restricted : (camp : ℕ) → restrict camp no_work ≡ no_work
none-restricted camp = work-eq (kept-none (on_sheet camp) bench_count) refl

-- what a desk holds of a camp is what the work holds of it
same-sheet : (es fs : List Entry) (camp : ℕ) → entries_of camp es ≡ entries_of camp fs → get_or (sheets_of es) camp no_sheet ≡ get_or (sheets_of fs) camp no_sheet
same-sheet es fs zero e = ap sheet_of e
same-sheet es fs (suc zero) e = ap sheet_of e
same-sheet es fs (suc (suc camp)) e = refl

same_line : (ts us : List (List ℕ)) (b : ℕ) → length ts ≡ length us → get_or ts b [] ≡ get_or us b [] → get_or (map line_of ts) b no_line ≡ get_or (map line_of us) b no_line
same_line [] [] b n e = refl
same_line [] (u ∷ us) b n e = absurd (omega arith)
same_line (t ∷ ts) [] b n e = absurd (omega arith)
same_line (t ∷ ts) (u ∷ us) zero n e = ap line_of e
same_line (t ∷ ts) (u ∷ us) (suc b) n e = same_line ts us b (omega arith) e

module _ {Rows : Type 0} (rows_of : ℕ → Sheet → Rows) (no_rows : Rows) (log : List ℕ) where
  four : (cs : List Call) → length (work_after rows_of no_rows log cs).typed ≡ bench_count
  four cs = let n = (follows rows_of no_rows log cs).kept.shape.lines in omega (arith, n, length-map (work_after rows_of no_rows log cs).typed line_of)

  pub as-if-alone : (camp : ℕ) (cs : List Call) → none_full (answers_of camp (desk_answers rows_of no_rows log cs)) ≡ true → AsIfAlone rows_of no_rows log camp cs
  as-if-alone camp cs h =
      let own = own_calls camp cs in
      let f = follows rows_of no_rows log cs in
      let g = follows rows_of no_rows log own in
      let r = as-alone rows_of no_rows (length log) camp no_work cs (ap (λ ps. none_full (answers_of camp ps)) (sym f.answers) ∙ h) in
      let v = work_after rows_of no_rows log cs in
      let w = work_after rows_of no_rows log own in
      let start = none-restricted camp in
      let end : restrict camp v ≡ w = r.end ∙ ap (λ (u : Work). final (work_step rows_of no_rows (length log)) u own) start in
      let entries : entries_of camp v.entries ≡ entries_of camp w.entries = sym (entries_twice camp v.entries) ∙ ap (λ (u : Work). entries_of camp u.entries) end in
      record {
        answers = ap (answers_of camp) f.answers ∙ r.answers ∙ ap (λ (u : Work). answered (work_step rows_of no_rows (length log)) u own) start ∙ sym g.answers;
        sheet = ap (λ (s : State). sheet_at s.desk camp) f.end ∙ same-sheet v.entries w.entries camp entries ∙ sym (ap (λ (s : State). sheet_at s.desk camp) g.end);
        lines = λ bench on.
            let text : typed_by v bench ≡ typed_by w bench = sym (kept-own (on_sheet camp) v.typed bench (eq-eqb (sheet_of_bench bench) camp on)) ∙ ap (λ (u : Work). typed_by u bench) end in
            ap (λ (s : State). line_at s.desk bench) f.end
            ∙ same_line v.typed w.typed bench (four cs ∙ sym (four own)) text
            ∙ sym (ap (λ (s : State). line_at s.desk bench) g.end);
      }

  -- of the Enters only the camp's are asked not to get 8
  pub two-runs-own : (camp : ℕ) (cs ds : List Call) → own_calls camp cs ≡ own_calls camp ds
      → none_full (answers_of camp (desk_answers rows_of no_rows log cs)) ≡ true → none_full (answers_of camp (desk_answers rows_of no_rows log ds)) ≡ true
      → SameForCamp rows_of no_rows log camp cs ds
  two-runs-own camp cs ds e h g =
      let p = as-if-alone camp cs h in
      let q = as-if-alone camp ds g in
      record {
        answers = p.answers ∙ ap (desk_answers rows_of no_rows log) e ∙ sym q.answers;
        sheet = p.sheet ∙ ap (λ xs. sheet_at (state_after rows_of no_rows log xs).desk camp) e ∙ sym q.sheet;
        lines = λ bench on. p.lines bench on ∙ ap (λ xs. line_at (state_after rows_of no_rows log xs).desk bench) e ∙ sym (q.lines bench on);
      }

  pub two_runs : TwoRuns rows_of no_rows log
  two_runs camp cs ds e h g =
      two-runs-own camp cs ds e (none-own camp (desk_answers rows_of no_rows log cs) h) (none-own camp (desk_answers rows_of no_rows log ds) g)
