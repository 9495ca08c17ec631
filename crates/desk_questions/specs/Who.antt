-- Who typed an item of a sheet (document 01, "Keys and their refusals", "Two questions"; document 02, No. 9: "the questions .. name a sheet").
-- Assumes nothing.
use Rattle.std.specs.Prelude.{ℕ, cond, Option, Some, None, Result, Ok, Err, List, eqb}
use Rattle.line_items.specs.Items.{is_item}
use Rattle.desk_state.specs.Desks.{no_bench, is_sheet, sheet_at}
use Rattle.desk_state.specs.Sheets.{item_at}
use Rattle.desk_memory.specs.Memory.{is_desk, desk_of}
use Rattle.desk_soundness.specs.Sound.{sound_desk}
use Rattle.desk_state.specs.declared.sheet.Item.{Item}
use Rattle.desk_state.specs.declared.desk.Desk.{Desk}
use Rattle.desk_answers.specs.Number.{asked_number}
use Rattle.desk_answers.specs.declared.QuestionRefusal.{QuestionRefusal}
use Rattle.desk_questions.specs.declared.who.LastEntry.{LastEntry}

-- what Who tells: the number of its answer, the item's last entry and its bench, and how many accepted entries named it
pub record Who : Type 0 where
  pub answer : ℕ
  pub entry : ℕ
  pub bench : ℕ
  pub times : ℕ

-- "For an empty item, and with any refusal, bench is 255 and entry 0"; document 02, No. 7: "Who tells it too, 0 for empty items and refusals"
abbrev pub nobody : ℕ → Who
nobody a = record { answer = a; entry = 0; bench = no_bench; times = 0 }

-- the function's result
abbrev pub who_in : Result (Option LastEntry) QuestionRefusal → Who
who_in (Ok (Some last)) = record { answer = 0; entry = last.entry; bench = last.bench; times = last.times }
who_in (Ok None) = nobody 0
who_in (Err refusal) = nobody (asked_number refusal)

-- "bench and entry number" of an item, and "the number of accepted entries that named it"
unfoldable pub told_of : Item → Who
told_of i = cond (eqb i.len 0) (nobody 0) (record { answer = 0; entry = i.entry; bench = i.bench; times = i.times })

-- "Who takes an item number: 2 if unsound, else 6 if not 1 to 10; else 0 with bench and entry number"; document 02, No. 9: "12, no such sheet, before 2";
-- No. 11: "Item numbers up to 18 amend 6", No. 12: up to 19
unfoldable pub who_of : Desk → ℕ → ℕ → Who
who_of d sheet item =
    cond (is_sheet sheet) (cond (sound_desk d) (cond (is_item item) (told_of (item_at (sheet_at d sheet) item)) (nobody 6)) (nobody 2)) (nobody 12)

-- of lent memory; memory that is no desk gets 2
unfoldable pub who_lent : List ℕ → List ℕ → ℕ → ℕ → Who
who_lent t n sheet item = cond (is_desk t n) (who_of (desk_of t n) sheet item) (cond (is_sheet sheet) (nobody 2) (nobody 12))
