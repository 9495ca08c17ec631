-- One log, one history, of calls and logs.
-- Assumes nothing.
use mathlib.Core.Path.{◌≡◌, sym, ap, ◌∙◌}
use mathlib.Core.List.{List, ◌++◌}
use Prim.Native.Nat.{ℕ}
use Rattle.desk_state.specs.Desks.{fresh_desk}
use Rattle.desk_state.specs.declared.sheet.Sheet.{Sheet}
use Rattle.rows.specs.Rows.{no_rows}
use Rattle.rows_sheet.specs.Sheet.{rows_of}
use Rattle.reader_entries.specs.Judged.{refusal_of, store_of}
use Rattle.theorem_history.specs.Histories.{Fitting, records, history_in}
use Rattle.theorem_history.proofs.Unique.{beginning, same-history, grown-fitting}
use Rattle.theorem_history.proofs.Back.{history-told, notes-beside}
use Rattle.theorem_work.specs.Calls.{Call}
use Rattle.theorem_sequences.specs.Sequences.{work_after}
use Rattle.theorem_sequences.proofs.Demand3.{demand-3}
use Rattle.theorem_logs.specs.GivesBack.{used_log_after, GivesBack}
use Rattle.theorem_logs.specs.History.{history_after, OneHistory}
use Rattle.theorem_logs.proofs.Back.{records-in-order, back-after, gives_back}

module _ {Rows : Type 0} (rows : ℕ → Sheet → Rows) (none : Rows) where
  -- the used log is the records of the history
  used-records : (log : List ℕ) (cs : List Call) → used_log_after rows none log cs ≡ records (history_after rows none log cs)
  used-records log cs = (demand-3 rows none log cs).used_log ∙ sym (records-in-order (work_after rows none log cs).entries)

  history-fits : (log : List ℕ) (cs : List Call) → Fitting (history_after rows none log cs)
  history-fits log cs = grown-fitting (back-after rows none log cs)

  pub one-history : (log : List ℕ) (cs : List Call) (log' : List ℕ) (cs' : List Call) → OneHistory rows none log cs log' cs'
  one-history log cs log' cs' = record {
    same = λ e. same-history (history_after rows none log cs) (history_after rows none log' cs') (history-fits log cs) (history-fits log' cs')
        (sym (used-records log cs) ∙ e ∙ used-records log' cs');
    beginning = λ rest e. beginning (history_after rows none log cs) (history_after rows none log' cs') rest (history-fits log cs) (history-fits log' cs')
        (ap (λ (l : List ℕ). l ++ rest) (sym (used-records log cs)) ∙ e ∙ used-records log' cs');
    told = ap (history_in refusal_of store_of fresh_desk) (used-records log cs) ∙ history-told refusal_of store_of (back-after rows none log cs);
    beside = notes-beside refusal_of store_of fresh_desk (used_log_after rows none log cs);
  }

-- the desk itself
pub desk-one-history : (log : List ℕ) (cs : List Call) (log' : List ℕ) (cs' : List Call) → OneHistory rows_of no_rows log cs log' cs'
desk-one-history = one-history rows_of no_rows

pub desk-gives-back : (log : List ℕ) (cs : List Call) → GivesBack rows_of no_rows log cs
desk-gives-back = gives_back rows_of no_rows
