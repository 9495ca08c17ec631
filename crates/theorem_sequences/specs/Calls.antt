-- What a call does to desk and log (document 01, "Sequences of calls"). The calls and their answers are those of theorem_work/specs/Calls.antt.
-- Assumes nothing.
use Rattle.std.specs.Prelude.{ℕ, cond, List, take}
use Rattle.desk_state.specs.Desks.{fresh_desk, is_sheet, sheet_at}
use Rattle.desk_soundness.specs.Sound.{sound_desk}
use Rattle.rows.specs.Rows.{is_profile}
use Rattle.desk_state.specs.declared.sheet.Sheet.{Sheet}
use Rattle.desk_state.specs.declared.desk.Desk.{Desk}
use Rattle.desk_keys.specs.Key.{After, key_of}
use Rattle.desk_questions.specs.Who.{who_of}
use Rattle.theorem_work.specs.Calls.{Call, key, ask, report, who, Reply, keyed, reported, told}

-- "the whole desk, the used number and every byte of the log"
pub record State : Type 0 where
  pub desk : Desk
  pub used : ℕ
  pub log : List ℕ

-- a desk, a used number and a log
abbrev pub state_of : Desk → ℕ → List ℕ → State
state_of d used log = record { desk = d; used = used; log = log }

-- the used log
abbrev pub used_log : State → List ℕ
used_log s = take s.used s.log

-- "It starts from a fresh desk and a log of any length and content, none used"
abbrev pub fresh_state : List ℕ → State
fresh_state log = state_of fresh_desk 0 log

-- what a key call leaves to the next call
abbrev pub left_by_key : After → State
left_by_key a = state_of a.desk a.used a.log

-- the rows of a sheet, and the rows that go with a refusal, are defined with Report: here they may be any
module _ {Rows : Type 0} (rows_of : ℕ → Sheet → Rows) (no_rows : Rows) where
  -- "on an unsound desk it gives 2 and rows all level 0, reason 0"; document 02, No. 9: "12, no such sheet, before 2, with the report as with 2";
  -- No. 11: "21, no such profile, after 12 and before 2; with 21 too the report is as with 2"
  unfoldable pub report_of : Desk → ℕ → ℕ → Reply Rows
  report_of d sheet profile =
      cond (is_sheet sheet) (cond (is_profile profile) (cond (sound_desk d) (reported 0 (rows_of profile (sheet_at d sheet))) (reported 2 no_rows)) (reported 21 no_rows)) (reported 12 no_rows)

  -- a call: its answer, and what it leaves; questions leave everything as it is
  abbrev pub step : Call → State → Reply Rows × State
  step (key bench byte) s = let a = key_of s.desk s.used s.log bench byte in (keyed a.answer, left_by_key a)
  step (ask (report sheet profile)) s = (report_of s.desk sheet profile, s)
  step (ask (who sheet item)) s = (told (who_of s.desk sheet item), s)
