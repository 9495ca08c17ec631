-- Demand 3: the claim `Sequences` of specs/Sequences.antt holds of every log and every sequence of calls.
-- Assumes nothing.
use mathlib.Core.Path.{◌≡◌, refl, sym, ap, ◌∙◌, subst⁻¹}
use mathlib.Core.List.{List, [], ◌∷◌, ◌++◌}
use Prim.Native.Nat.{ℕ, zero, suc, ◌≤◌, ◌<◌}
use native.Mathlib.Omega.{arith}
use borrow.Author.Tests.{lt-ltb, le-ltb}
use lib.ListN.{length, get_or, take, drop, get_or-replicate}
use lib.Seq.{take-append_seam, drop-append_seam}
use Rattle.text.specs.Run.{all, between}
use Rattle.text.proofs.Bools.{cond-true, cond-false}
use Rattle.line_items.specs.Items.{item_count}
use Rattle.desk_state.specs.Lines.{line_of}
use Rattle.desk_state.specs.Sheets.{empty_item, no_item, item_at, empty_sheet}
use Rattle.desk_state.specs.Desks.{bench_count, sheet_count, is_sheet, no_line, sheet_at}
use Rattle.rows.specs.Rows.{profile_count, is_profile}
use Rattle.desk_soundness.specs.Sound.{every, sound_line, sound_empty, sound_item, sound_lines, sound_sheet, sound_desk}
use Rattle.desk_soundness.specs.SoundLog.{sound_log}
use Rattle.desk_state.specs.declared.line.Line.{Line}
use Rattle.desk_state.specs.declared.sheet.Item.{Item}
use Rattle.desk_state.specs.declared.sheet.Sheet.{Sheet}
use Rattle.theorem_work.specs.Calls.{Call, key, ask, report, who, keyed, reported, told}
use Rattle.theorem_work.specs.Gather.{own, gather, gather_answered}
use Rattle.theorem_work.specs.Work.{Work, Entry, no_work, records_of, entries_of, times_of, last_of, sheet_of, key_answer, report_on, work_step}
use Rattle.theorem_work.specs.Logged.{records_naming}
use Rattle.theorem_work.specs.Entered.{Entered, entered_first, entered_by, text_after_calls}
use Rattle.theorem_work.proofs.GatherChecks.{gather-regroups}
use Rattle.theorem_work.proofs.OneRegrouping.{one_regrouping}
use Rattle.theorem_work.proofs.Gathering.{final-append, gathered}
use Rattle.theorem_work.proofs.Simulation.{Followed, followed}
use Rattle.theorem_work.proofs.WorkLaws.{work-laws}
use Rattle.theorem_work.proofs.OwnKeys.{own_keys}
use Rattle.theorem_work.proofs.Times.{held-times, records-naming}
use Rattle.theorem_work.proofs.Grown.{none-grown, work-table}
use Rattle.theorem_work.proofs.Enters.{enter-entered, adds_none, entered-benches}
use Rattle.theorem_sequences.specs.Calls.{State, step}
use Rattle.theorem_sequences.specs.Sequences.{state_after, answer_after, work_after, Sequences}
use Rattle.theorem_sequences.proofs.Sheets.{item-at, sheet-at}
use Rattle.theorem_sequences.proofs.DeskFollows.{desk_of, work_state, Good, log_length, log_sound, desk-follows}

-- a fresh desk is a sound one, of the right shape
fresh-sheet : (s : ℕ) → s < sheet_count → sheet_at (desk_of no_work) s ≡ empty_sheet
fresh-sheet zero h = refl
fresh-sheet (suc zero) h = refl
fresh-sheet (suc (suc s)) h = absurd (omega arith)

fresh-good : (log : List ℕ) → Good log no_work
unfolding sound_desk sound_lines sound_sheet every sound_line sound_item sound_empty all between
fresh-good log = record {
  shape = record {
    lines = refl;
    line_bytes = λ b h. ap (λ (l : Line). length l.bytes) (get_or-replicate bench_count b (line_of []) no_line h);
    sheets = refl;
    items = λ s on. ap (λ (x : Sheet). length x.items) (fresh-sheet s on);
    item_bytes = λ s on i h. ap (λ (x : Sheet). length (get_or x.items i no_item).value) (fresh-sheet s on)
        ∙ ap (λ (x : Item). length x.value) (get_or-replicate item_count i empty_item no_item h);
  };
  sound = refl;
  room = omega arith;
  grown = none-grown;
}

module _ {Rows : Type 0} (rows_of : ℕ → Sheet → Rows) (no_rows : Rows) (log : List ℕ) where
  -- the desk after any sequence, by the work
  pub follows : (cs : List Call) → Followed (step rows_of no_rows) (work_step rows_of no_rows (length log)) (work_state log) (Good log) no_work cs
  follows cs = followed (step rows_of no_rows) (work_step rows_of no_rows (length log)) (work_state log) (Good log) (desk-follows rows_of no_rows log) cs no_work (fresh-good log)

  -- the answer of a call after it
  next-answer : (cs : List Call) (c : Call) → answer_after rows_of no_rows log cs c ≡ (work_step rows_of no_rows (length log) c (work_after rows_of no_rows log cs)).0
  next-answer cs c =
      ap (λ (s : State). (step rows_of no_rows c s).0) (follows cs).end ∙ (desk-follows rows_of no_rows log).answer c (work_after rows_of no_rows log cs) (follows cs).kept

  next-entry : (before : List Call) (bench : ℕ) → answer_after rows_of no_rows log before (key bench 10) ≡ keyed 0
      → Entered bench (work_after rows_of no_rows log before) (work_after rows_of no_rows log (before ++ (key bench 10 ∷ [])))
  next-entry before bench h =
      let w = work_after rows_of no_rows log before in
      let n = next-answer before (key bench 10) in
      let a : key_answer (length log) w bench 10 ≡ 0 = cc in
      rw (final-append (work_step rows_of no_rows (length log)) before (key bench 10 ∷ []) no_work) (enter-entered (length log) w bench a)

  next-no-entry : (before : List Call) (c : Call) → entered_first c (answer_after rows_of no_rows log before c) [] ≡ []
      → (work_after rows_of no_rows log (before ++ (c ∷ []))).entries ≡ (work_after rows_of no_rows log before).entries
  next-no-entry before c h =
      let w = work_after rows_of no_rows log before in
      ap (λ (v : Work). v.entries) (final-append (work_step rows_of no_rows (length log)) before (c ∷ []) no_work)
      ∙ adds_none rows_of no_rows (length log) c w (ap (λ r. entered_first c r []) (sym (next-answer before c)) ∙ h)

  -- a report of a sheet and in a profile that are there
  in-profile : (s p : ℕ) → s < sheet_count → p < profile_count → (es : List Entry) → report_on rows_of no_rows s p es ≡ reported 0 (rows_of p (sheet_of (entries_of s es)))
  in-profile s p on in_use es = cond-true (is_sheet s) _ _ (lt-ltb s sheet_count on) ∙ cond-true (is_profile p) _ _ (lt-ltb p profile_count in_use)

  pub demand-3 : (cs : List Call) → Sequences rows_of no_rows log cs
  demand-3 cs =
      let end = (follows cs).end in
      let moved = gathered (work_step rows_of no_rows (length log)) (λ w. Unit {0}) (work-laws rows_of no_rows (length log)) cs no_work tt in
      let es = (work_after rows_of no_rows log cs).entries in
      let r = records_of es in
      let bytes = ap (λ (s : State). take s.used s.log) end ∙ take-append_seam r (drop (length r) log) in
      let on-desk : (s : ℕ) → s < sheet_count → sheet_at (state_after rows_of no_rows log cs).desk s ≡ sheet_of (entries_of s es) = λ s on.
      ap (λ (x : State). sheet_at x.desk s) end ∙ sheet-at es s on in
      let items : (s k : ℕ) → s < sheet_count → 1 ≤ k → k ≤ item_count → item_at (sheet_at (state_after rows_of no_rows log cs).desk s) k ≡ last_of (entries_of s es) k
      = λ s k on some known. ap (λ (x : Sheet). item_at x k) (on-desk s on) ∙ item-at (entries_of s es) k some known in
      let held : (s k : ℕ) → s < sheet_count → 1 ≤ k → k ≤ item_count → (item_at (sheet_at (state_after rows_of no_rows log cs).desk s) k).times ≡ times_of (entries_of s es) k
      = λ s k on some known. ap (λ (i : Item). i.times) (items s k on some known) ∙ held-times (entries_of s es) k in
      record {
        regrouped = gather-regroups cs;
        one_regrouping = λ ds r. one_regrouping cs ds (gather cs) r (gather-regroups cs);
        gathered_answers = (follows (gather cs)).answers ∙ moved.0 ∙ ap gather_answered (sym (follows cs).answers);
        gathered_state = (follows (gather cs)).end ∙ ap (work_state log) moved.1 ∙ sym end;
        table = λ before after bench byte e. record {
          number = key_answer (length log) (work_after rows_of no_rows log before) bench byte;
          is_number = next-answer before (key bench byte);
          given = work-table (length log) (work_after rows_of no_rows log before) (follows before).kept.grown bench byte;
        };
        answers = (follows cs).answers;
        lines = ap (λ (s : State). s.desk.lines) end;
        own_keys = λ before after bench e.
            own_keys rows_of no_rows (length log) bench before ∙ ap (λ ps. text_after_calls [] (own (λ p. p.0) bench ps)) (sym (follows before).answers);
        entry = λ before after bench e h. next-entry before bench h;
        no_entry = λ before after c e h. next-no-entry before c h;
        entries = entered-benches rows_of no_rows (length log) cs no_work ∙ ap (entered_by []) (sym (follows cs).answers);
        used_log = bytes;
        used = ap (λ (s : State). s.used) end;
        rest_of_log = subst⁻¹ (λ (s : State). drop s.used s.log ≡ drop s.used log) end (drop-append_seam r (drop (length r) log));
        log_length = ap (λ (s : State). length s.log) end ∙ log_length log es (follows cs).kept.room;
        count = λ s on. ap (λ (x : Sheet). x.count) (on-desk s on);
        items = items;
        times = held;
        logged = λ s k on some known. held s k on some known ∙ sym (records-naming s k es (follows cs).kept.grown.fitting) ∙ ap (records_naming s k) (sym bytes);
        all_sheets = ap (λ (s : State). length s.desk.sheets) end;
        all_items = λ s on. ap (λ (x : Sheet). length x.items) (on-desk s on);
        sound = ap (λ (s : State). sound_desk s.desk) end ∙ (follows cs).kept.sound;
        log_sound = ap (λ (s : State). sound_log s.desk (length s.log) s.used) end ∙ log_sound log (work_after rows_of no_rows log cs) (follows cs).kept;
        reports = λ before after s p e on in_use. next-answer before (ask (report s p)) ∙ in-profile s p on in_use (work_after rows_of no_rows log before).entries;
        tells = λ before after s item e on. next-answer before (ask (who s item)) ∙ ap told (cond-true (is_sheet s) _ _ (lt-ltb s sheet_count on));
        no_report = λ before after s p e off. next-answer before (ask (report s p)) ∙ cond-false (is_sheet s) _ _ (le-ltb s sheet_count off);
        no_profile = λ before after s p e on out. next-answer before (ask (report s p)) ∙ cond-true (is_sheet s) _ _ (lt-ltb s sheet_count on) ∙ cond-false (is_profile p) _ _ (le-ltb p profile_count out);
        no_tell = λ before after s item e off. next-answer before (ask (who s item)) ∙ ap told (cond-false (is_sheet s) _ _ (le-ltb s sheet_count off));
        who_next = λ s item on. next-answer cs (ask (who s item)) ∙ ap told (cond-true (is_sheet s) _ _ (lt-ltb s sheet_count on));
        report_next = λ s p on in_use. next-answer cs (ask (report s p)) ∙ in-profile s p on in_use es;
      }
