-- Questions asked of what was read are answered as by the desk: the sheets are the desk's, and a fresh desk's lines are sound.
-- Assumes nothing.
use mathlib.Core.Path.{◌≡◌, refl, ap, subst⁻¹}
use mathlib.Core.Bool.{true}
use mathlib.Core.List.{List}
use Prim.Native.Nat.{ℕ}
use Rattle.text.specs.Run.{all, between}
use Rattle.text.proofs.Bools.{and_both}
use Rattle.desk_state.specs.Desks.{fresh_desk}
use Rattle.desk_state.specs.declared.sheet.Sheet.{Sheet}
use Rattle.desk_state.specs.declared.desk.Desk.{Desk}
use Rattle.desk_soundness.specs.Sound.{every, sound_line, sound_lines, sound_sheets, sound_desk}
use Rattle.desk_questions.specs.Who.{who_of}
use Rattle.desk_questions.specs.Report.{reported_of}
use Rattle.rows.specs.Rows.{no_rows}
use Rattle.rows_sheet.specs.Sheet.{rows_of}
use Rattle.reader_cuts.specs.Reading.{Reading}
use Rattle.theorem_reader.specs.Parts.{LogPart}
use Rattle.theorem_work.specs.Calls.{Call}
use Rattle.theorem_sequences.specs.Sequences.{state_after}
use Rattle.theorem_sequences.proofs.Demand3.{demand-3}
use Rattle.theorem_logs.specs.GivesBack.{only_sheets}
use Rattle.theorem_logs.specs.Asked.{AskedAlike, AskedSame, AskedSameInParts}
use Rattle.theorem_logs.proofs.Back.{gives_back}
use Rattle.theorem_logs.proofs.Cut.{gives-back-in-parts}

fresh_lines : sound_lines fresh_desk ≡ true
unfolding sound_lines every sound_line all between
fresh_lines = refl

-- without its lines a sound desk is sound
module _ (d : Desk) (s : sound_desk d ≡ true) where
  sheets-sound : sound_desk (only_sheets d.sheets) ≡ true
  unfolding sound_desk sound_lines
  sheets-sound =
      let both = and_both (sound_lines d) (sound_sheets d) s in
      let lines = fresh_lines in
      simp (lines, both.1)

  who-alike : (sheet item : ℕ) → who_of (only_sheets d.sheets) sheet item ≡ who_of d sheet item
  unfolding who_of
  who-alike sheet item = let e = sheets-sound in rw (e, s)

  report-alike : (sheet profile : ℕ) → reported_of (only_sheets d.sheets) sheet profile ≡ reported_of d sheet profile
  unfolding reported_of
  report-alike sheet profile = let e = sheets-sound in rw (e, s)

  pub asked-alike : AskedAlike (only_sheets d.sheets) d
  asked-alike = record { who = who-alike; report = report-alike }

module _ {Rows : Type 0} (rows : ℕ → Sheet → Rows) (none : Rows) (log : List ℕ) (cs : List Call) where
  desk-alike : AskedAlike (only_sheets (state_after rows none log cs).desk.sheets) (state_after rows none log cs).desk
  desk-alike = asked-alike (state_after rows none log cs).desk (demand-3 rows none log cs).sound

  -- "The used log of any desk .. gives back its sheets exactly", so Who and Report, asked of what was read, tell the same
  pub asked-same : AskedSame rows none log cs
  asked-same =
      subst⁻¹ (λ (d : Desk). AskedAlike d (state_after rows none log cs).desk) (ap (λ (r : Reading Desk). r.sheets) (gives_back rows none log cs)) desk-alike

  pub asked-same-in-parts : (ps : List (List ℕ)) (p : List ℕ) (more : List LogPart) → AskedSameInParts rows none log cs ps p more
  asked-same-in-parts ps p more e = subst⁻¹ (λ (d : Desk). AskedAlike d (state_after rows none log cs).desk) (gives-back-in-parts rows none log cs ps p more e).desk desk-alike

-- the desk itself
pub desk-asked-same : (log : List ℕ) (cs : List Call) → AskedSame rows_of no_rows log cs
desk-asked-same = asked-same rows_of no_rows

pub desk-asked-same-in-parts : (log : List ℕ) (cs : List Call) (ps : List (List ℕ)) (p : List ℕ) (more : List LogPart) → AskedSameInParts rows_of no_rows log cs ps p more
desk-asked-same-in-parts = asked-same-in-parts rows_of no_rows
