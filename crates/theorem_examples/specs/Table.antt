-- The examples that document 01 marks with [P], as one table ("Measured examples"), with those of document 02's requests, one of document 01's
-- "Errors a good programmer makes here", two sequences in which an item has an owner (document 02, No. 8), and one of both sheets (No. 9).
-- `examples-hold`, in proofs/Hold.antt, is the one statement about it.
-- Assumes nothing.
use Rattle.std.specs.Prelude.{ℕ, ◌-◌, cond, List, [], ◌∷◌, ◌++◌, eqb, get_or, set, replicate, Option, Some, None, Result}
use Prim.Native.String.{String}
use Rattle.text.specs.Quote.{bytes}
use Rattle.formula_sum.specs.Sum.{sum_of}
use Rattle.desk_state.specs.Sheets.{filled, empty_sheet}
use Rattle.desk_state.specs.declared.sheet.Item.{Item}
use Rattle.rows.specs.Rows.{row_of, no_rows}
use Rattle.rows_sheet.specs.Sheet.{rows_of}
use Rattle.rows.specs.declared.Row.{Row}
use Rattle.rows.specs.declared.Rows.{Rows}
use Rattle.rows_levels.specs.Bounds.{graded_of, graded_number, graded_level}
use Rattle.rows_levels.specs.declared.Ungraded.{Ungraded}
use Rattle.theorem_work.specs.Calls.{Call, key, ask, typing, Reply, keyed, reported, told}
use Rattle.theorem_sequences.specs.Calls.{used_log}
use Rattle.theorem_sequences.specs.Sequences.{desk_answers, state_after}

-- a value typed for an item
pub record Typed : Type 0 where
  pub item : ℕ
  pub value : String

-- what an example asks
pub data Asked : Type 0 where
  -- the sum of a formula's weights, in thousandths
  sum : String → Asked
  -- a row of the report on a sheet that holds these values
  row : ℕ → List Typed → Asked
  -- the wall screen's second question, for a row and a typed value
  graded : ℕ → String → Asked
  -- the log after a sequence of calls, from a fresh desk
  played : List Call → Asked
  -- the answers of the Enters in a sequence of calls, from a fresh desk and a log of so many bytes
  enters : ℕ → List Call → Asked

-- a sheet that holds these values
unfoldable pub sheet_with : List Typed → List Item
sheet_with [] = empty_sheet.items
sheet_with (t ∷ ts) = set (sheet_with ts) (t.item - 1) (filled 0 1 1 (bytes t.value))

abbrev pub summed : Option ℕ → List ℕ
summed (Some n) = n ∷ []
summed None = []

abbrev pub row_numbers : Row → List ℕ
row_numbers r = r.level ∷ r.reason ∷ []

abbrev pub graded_numbers : Result ℕ Ungraded → List ℕ
graded_numbers g = graded_number g ∷ graded_level g ∷ []

abbrev pub keyed_number : Reply Rows → List ℕ
keyed_number (keyed n) = n ∷ []
keyed_number (reported n rows) = []
keyed_number (told w) = []

abbrev pub enter_answer : Call → Reply Rows → List ℕ
enter_answer (key bench byte) r = cond (eqb byte 10) (keyed_number r) []
enter_answer (ask q) r = []

abbrev pub enter_answers : List (Call × Reply Rows) → List ℕ
enter_answers [] = []
enter_answers (p ∷ ps) = enter_answer p.0 p.1 ++ enter_answers ps

-- what the desk's definitions answer: the sum, the level and reason of a row, the wall screen's answer and level, the used bytes of a log of 64, the answers of Enters
unfoldable pub answer_of : Asked → List ℕ
answer_of (sum formula) = summed (sum_of (bytes formula))
answer_of (row n values) = row_numbers (get_or (rows_of 0 (record { items = sheet_with values; count = 1 })).rows (n - 1) (row_of 9 9))
answer_of (graded n value) = graded_numbers (graded_of n (bytes value))
answer_of (played cs) = used_log (state_after rows_of no_rows (replicate 64 0) cs)
answer_of (enters len cs) = enter_answers (desk_answers rows_of no_rows (replicate len 0) cs)

pub record Example : Type 0 where
  pub asked : Asked
  pub answer : List ℕ

abbrev typed : ℕ → String → Typed
typed item value = record { item = item; value = value }

abbrev example : Asked → List ℕ → Example
example asked answer = record { asked = asked; answer = answer }

-- 'C10 H20' with a weight
abbrev weighed : String → List Typed
weighed weight = typed 1 "'C10 H20'" ∷ typed 2 weight ∷ []

-- a text typed at a bench, and Enter; at bench 0
abbrev entering_at : ℕ → String → List Call
entering_at bench text = typing bench (bytes text) ++ (key bench 10 ∷ [])

abbrev entering : String → List Call
entering text = entering_at 0 text

-- the table: a level is 0 none, 2 C, 3 B, 4 A, reason 0 judged, 1 missing, 2 not judgeable
unfoldable pub examples : List Example
examples =
    -- "'C18 H19 N7 O8 S' sums to 493451; 'C10 H20' to 140270"
    example (sum "C18 H19 N7 O8 S") (493451 ∷ []) ∷
    example (sum "C10 H20") (140270 ∷ []) ∷
    -- "'C10 H20' with weight: 138.8673 row 4 none; 138.8672 C; .. 126.243 B"
    example (row 4 (weighed "138.8673")) (0 ∷ 0 ∷ []) ∷
    example (row 4 (weighed "138.8672")) (2 ∷ 0 ∷ []) ∷
    example (row 4 (weighed "126.243")) (3 ∷ 0 ∷ []) ∷
    -- "Category FO: 141.27 row 5 none"
    example (row 5 (typed 3 "FO" ∷ weighed "141.27")) (0 ∷ 0 ∷ []) ∷
    -- "R .. 0.200001 A. Shift -0.05 none; -0.06 C."
    example (row 6 (typed 4 "0.200001" ∷ [])) (4 ∷ 0 ∷ []) ∷
    example (row 10 (typed 8 "-0.05" ∷ [])) (0 ∷ 0 ∷ []) ∷
    example (row 10 (typed 8 "-0.06" ∷ [])) (2 ∷ 0 ∷ []) ∷
    -- "'F > 6\s(F)' none; 'F^2^ > 6\s(F^2^)' A"
    example (row 12 (typed 10 "'F > 6\\s(F)'" ∷ [])) (0 ∷ 0 ∷ []) ∷
    example (row 12 (typed 10 "'F^2^ > 6\\s(F^2^)'" ∷ [])) (4 ∷ 0 ∷ []) ∷
    -- document 02, No. 2: "'H Br' earns B and 'Br H' none, and that [P] case changes with it"
    example (row 2 (typed 1 "'H Br'" ∷ [])) (3 ∷ 0 ∷ []) ∷
    example (row 2 (typed 1 "'Br H'" ∷ [])) (0 ∷ 0 ∷ []) ∷
    -- document 02, No. 4, "the multiplier in row 12": x is 4 and 0.5; "the wall screen": .3 as 0.3; "a bare . stays unassigned, and -. or .(3) is no number"
    example (row 12 (typed 10 "'I > 4.\\s(I)'" ∷ [])) (2 ∷ 0 ∷ []) ∷
    example (row 12 (typed 10 "'F > .5\\s(F)'" ∷ [])) (0 ∷ 0 ∷ []) ∷
    example (row 12 (typed 10 "'I > .\\s(I)'" ∷ [])) (2 ∷ 2 ∷ []) ∷
    example (graded 6 "0.3") (0 ∷ 4 ∷ []) ∷
    example (graded 6 ".3") (0 ∷ 4 ∷ []) ∷
    example (graded 6 "-.") (7 ∷ 0 ∷ []) ∷
    example (row 6 (typed 4 "." ∷ [])) (2 ∷ 1 ∷ []) ∷
    -- "'C10H20' row 1 A"
    example (row 1 (typed 1 "'C10H20'" ∷ [])) (4 ∷ 0 ∷ []) ∷
    -- "_refine_ls_R_factor_gt 0.16 from bench 0 logs 0A 00 01 00 00 04 30 2E 31 36 (hexadecimal)"
    example (played (entering "_refine_ls_R_factor_gt 0.16")) (10 ∷ 0 ∷ 1 ∷ 0 ∷ 0 ∷ 4 ∷ 48 ∷ 46 ∷ 49 ∷ 54 ∷ []) ∷
    -- "Taking the bench from the first key after a refused Enter of another": bench 0's Enter is refused, bench 1 is the first to type after it, and the
    -- entry that bench 0 then corrects is bench 0's
    example (played (entering "_refine_ls_R_factor_gt" ++ (key 1 56 ∷ entering " 0.16")))
    (10 ∷ 0 ∷ 1 ∷ 0 ∷ 0 ∷ 4 ∷ 48 ∷ 46 ∷ 49 ∷ 54 ∷ []) ∷
    -- document 02, No. 8: bench 0's entry fills item 4 "also if that value was unassigned", and the log of 7 bytes; of bench 1 a value of a wrong kind gets 7,
    -- and one of the right kind 9, where 8 would apply too; the owner, bench 0, gets 8
    example (enters 7 (entering "_refine_ls_R_factor_gt ?" ++ (entering_at 1 "_refine_ls_R_factor_gt x" ++ (key 1 8 ∷ entering_at 1 "1" ++ entering "_refine_ls_R_factor_gt 2"))))
    (0 ∷ 7 ∷ 9 ∷ 8 ∷ []) ∷
    -- the owner may write its item again: both records are bench 0's
    example (played (entering "_refine_ls_R_factor_gt ?" ++ (entering_at 1 "_refine_ls_R_factor_gt 1" ++ entering "_refine_ls_R_factor_gt 2")))
    (7 ∷ 0 ∷ 1 ∷ 0 ∷ 0 ∷ 4 ∷ 63 ∷ 7 ∷ 0 ∷ 1 ∷ 0 ∷ 0 ∷ 4 ∷ 50 ∷ []) ∷
    -- document 02, No. 9: "Benches 0 and 1 fill sheet 0, benches 2 and 3 sheet 1", "ownership .. per sheet": item 4 of each sheet is of the first of its two benches
    -- to enter it; the log is shared, and with 14 bytes it is full after two records, so that for bench 3 8 would apply too, and 9 stands before it
    example (enters 14 (entering "_refine_ls_R_factor_gt 1" ++ (entering_at 1 "_refine_ls_R_factor_gt 1" ++ (entering_at 2 "_refine_ls_R_factor_gt 1" ++ entering_at 3 "_refine_ls_R_factor_gt 1"))))
    (0 ∷ 9 ∷ 0 ∷ 9 ∷ []) ∷ []
