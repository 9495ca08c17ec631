-- Checks of the definitions by examples: they compute.
-- Assumes nothing.
use mathlib.Core.Path.{◌≡◌, refl}
use mathlib.Core.Bool.{true, false}
use mathlib.Core.List.{List, [], ◌∷◌, map}
use Prim.Native.Nat.{ℕ, ◌+◌}
use lib.ListN.{drop}
use Rattle.text.specs.Run.{between}
use Rattle.line_reader.specs.Line.{class_of, entry_at}
use Rattle.desk_state.specs.Desks.{sheet_of_bench}
use Rattle.desk_state.specs.Sheets.{filled, empty_item}
use Rattle.desk_questions.specs.Who.{nobody}
use Rattle.theorem_work.specs.Calls.{Call, key, ask, report, who, Reply, keyed, reported, told, answered}
use Rattle.theorem_work.specs.Work.{Entry, Work, entries_of, last_of, may_write, table_answer, who_last, work_step}
use Rattle.theorem_work.specs.Camps.{own_calls}

-- "Benches 0 and 1 fill sheet 0, benches 2 and 3 sheet 1"
pub benches-of-sheets : map sheet_of_bench (0 ∷ 1 ∷ 2 ∷ 3 ∷ 4 ∷ 255 ∷ []) ≡ 0 ∷ 0 ∷ 1 ∷ 1 ∷ 2 ∷ 127 ∷ []
unfolding sheet_of_bench
benches-of-sheets = refl

-- a camp's calls: its benches' keys, and the questions about its sheet
pub calls-of-a-camp : own_calls 1 (key 0 65 ∷ key 2 66 ∷ ask (report 0 1) ∷ ask (report 1 0) ∷ key 3 10 ∷ key 4 10 ∷ ask (who 2 4) ∷ ask (who 1 4) ∷ [])
    ≡ key 2 66 ∷ ask (report 1 0) ∷ key 3 10 ∷ ask (who 1 4) ∷ []
unfolding sheet_of_bench
calls-of-a-camp = refl

-- four entries, the newest first: items, numbers, counts and owners of the two sheets
abbrev pub four : List Entry
four =
    record { bench = 1; item = 7; value = 50 ∷ []; line = [] } ∷
    record { bench = 0; item = 4; value = 49 ∷ []; line = [] } ∷
    record { bench = 2; item = 4; value = 48 ∷ []; line = [] } ∷
    record { bench = 0; item = 4; value = []; line = [] } ∷ []

pub entries-of-both : (last_of (entries_of 0 four) 4 ≡ filled 0 2 2 (49 ∷ []))
    × (last_of (entries_of 0 four) 7 ≡ filled 1 3 1 (50 ∷ []))
    × (last_of (entries_of 1 four) 4 ≡ filled 2 1 1 (48 ∷ []))
    × (last_of (entries_of 1 four) 7 ≡ empty_item)
    × (who_last (entries_of 0 four) 4 ≡ record { answer = 0; entry = 2; bench = 0; times = 2 })
    × (may_write (entries_of 0 four) 4 1 ≡ false) × (may_write (entries_of 0 four) 4 0 ≡ true)
    × (may_write (entries_of 1 four) 4 3 ≡ false) × (may_write (entries_of 1 four) 7 2 ≡ true)
unfolding sheet_of_bench
entries-of-both = (refl, refl, refl, refl, refl, refl, refl, refl, refl)

-- Four benches have typed the same line of item 4, whose value is one byte, and the log has 15 bytes, room for two records of 7. Bench 0 enters it; bench 1 gets
-- 9; bench 2 enters it on its own sheet, with number 1; bench 3 gets 9, though 8 would apply too: 9 stands before 8.
abbrev pub typed_by_all : List ℕ → Work
typed_by_all t = record { typed = t ∷ t ∷ t ∷ t ∷ []; entries = [] }

pub both-sheets-run : (t : List ℕ) (start : ℕ) → class_of t ≡ entry_at 4 start → drop start t ≡ 49 ∷ []
    → answered (work_step (λ p s. s.count + p) 0 15) (typed_by_all t)
    (key 0 10 ∷ key 1 10 ∷ key 2 10 ∷ key 3 10 ∷ key 7 10 ∷ ask (who 0 4) ∷ ask (who 1 4) ∷ ask (who 2 4) ∷ ask (report 1 1) ∷ ask (report 1 2) ∷ ask (report 2 2) ∷ [])
    ≡ (key 0 10, keyed 0) ∷ (key 1 10, keyed 9) ∷ (key 2 10, keyed 0) ∷ (key 3 10, keyed 9) ∷ (key 7 10, keyed 1)
    ∷ (ask (who 0 4), told (record { answer = 0; entry = 1; bench = 0; times = 1 }))
    ∷ (ask (who 1 4), told (record { answer = 0; entry = 1; bench = 2; times = 1 }))
    ∷ (ask (who 2 4), told (nobody 12)) ∷ (ask (report 1 1), reported 0 2) ∷ (ask (report 1 2), reported 21 0) ∷ (ask (report 2 2), reported 12 0) ∷ []
unfolding sheet_of_bench table_answer between
both-sheets-run t start c v = rw (c, v)
