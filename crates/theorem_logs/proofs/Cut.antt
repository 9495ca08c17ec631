-- The used log gives back the sheets however it is cut.
-- Assumes nothing.
use mathlib.Core.Path.{ap, ◌∙◌}
use mathlib.Core.List.{List}
use Prim.Native.Nat.{ℕ}
use Rattle.desk_state.specs.declared.sheet.Sheet.{Sheet}
use Rattle.desk_state.specs.declared.desk.Desk.{Desk}
use Rattle.rows.specs.Rows.{no_rows}
use Rattle.rows_sheet.specs.Sheet.{rows_of}
use Rattle.reader_cuts.specs.Reading.{Reading}
use Rattle.theorem_reader.specs.Parts.{Between, LogPart, whole}
use Rattle.theorem_reader.proofs.Agree.{parts-agree, parts-accepted}
use Rattle.theorem_work.specs.Calls.{Call}
use Rattle.theorem_logs.specs.GivesBack.{GivesBackInParts}
use Rattle.theorem_logs.proofs.Back.{gives_back}

pub gives-back-in-parts : {Rows : Type 0} (rows : ℕ → Sheet → Rows) (none : Rows) (log : List ℕ) (cs : List Call) (ps : List (List ℕ)) (p : List ℕ) (more : List LogPart)
    → GivesBackInParts rows none log cs ps p more
gives-back-in-parts rows none log cs ps p more e =
    let read = ap (λ (l : List ℕ). whole l) e ∙ gives_back rows none log cs in
    record {
      desk = ap (λ (b : Between). b.desk) (parts-agree ps p more).left_so ∙ ap (λ (r : Reading Desk). r.sheets) read;
      answers = parts-accepted ps p more (ap (λ (r : Reading Desk). r.answer) read);
    }

-- the desk itself
pub desk-gives-back-in-parts : (log : List ℕ) (cs : List Call) (ps : List (List ℕ)) (p : List ℕ) (more : List LogPart) → GivesBackInParts rows_of no_rows log cs ps p more
desk-gives-back-in-parts = gives-back-in-parts rows_of no_rows
