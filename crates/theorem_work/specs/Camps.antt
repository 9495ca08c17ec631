-- A camp's part of a sequence of calls (document 02, No. 9): its calls, their answers, and what they leave of the work. The theorem about two runs of the desk is
-- theorem_sequences/specs/Camps.antt; here stands what it is made of, without a desk.
-- Assumes nothing.
use Rattle.std.specs.Prelude.{ℕ, zero, suc, ◌≡◌, Bool, true, cond, ◌&&◌, not, List, [], ◌∷◌, eqb}
use Rattle.desk_state.specs.declared.sheet.Sheet.{Sheet}
use Rattle.desk_state.specs.Desks.{sheet_of_bench}
use Rattle.theorem_work.specs.Calls.{Call, key, ask, report, who, Reply, keyed, reported, told, answered, final}
use Rattle.theorem_work.specs.Gather.{cons_if}
use Rattle.theorem_work.specs.Work.{Work, on_sheet, entries_of, work_step}

-- whose call it is: a key is its bench's camp's; "a camp asks only about its own sheet", so a question is the camp's whose sheet it names. A bench over 3 and a
-- sheet over 1 are of no camp: their number here is over 1.
abbrev pub camp_of : Call → ℕ
camp_of (key bench byte) = sheet_of_bench bench
camp_of (ask (report sheet profile)) = sheet
camp_of (ask (who sheet item)) = sheet

abbrev pub of_camp : ℕ → Call → Bool
of_camp camp c = eqb (camp_of c) camp

-- a camp's elements, calls or calls with their answers, in the order they had
module _ {X : Type 0} (call : X → Call) where
  abbrev pub camp_own : ℕ → List X → List X
  camp_own camp [] = []
  camp_own camp (x ∷ xs) = cons_if call (of_camp camp (call x)) x (camp_own camp xs)

-- "the same calls by one camp in the same order": these
abbrev pub own_calls : ℕ → List Call → List Call
own_calls camp cs = camp_own (λ c. c) camp cs

-- "that camp's answers", each with its call
abbrev pub answers_of : {A : Type 0} → ℕ → List (Call × A) → List (Call × A)
answers_of camp ps = camp_own (λ p. p.0) camp ps

-- the answer is not 8; only an Enter gets it
abbrev pub fitted : {Rows : Type 0} → Reply Rows → Bool
fitted (keyed a) = not (eqb a 8)
fitted (reported a rows) = true
fitted (told t) = true

-- "in which no Enter gets 8"
abbrev pub none_full : {Rows : Type 0} → List (Call × Reply Rows) → Bool
none_full [] = true
none_full (p ∷ ps) = fitted p.1 && none_full ps

-- ---- a camp's part of the work

-- the texts of the benches that p keeps; the others' are empty
abbrev pub kept_texts : (ℕ → Bool) → List (List ℕ) → List (List ℕ)
kept_texts p [] = []
kept_texts p (t ∷ ts) = cond (p zero) t [] ∷ kept_texts (λ b. p (suc b)) ts

-- a work with only the camp's texts and entries
abbrev pub restrict : ℕ → Work → Work
restrict camp w = record { typed = kept_texts (on_sheet camp) w.typed; entries = entries_of camp w.entries }

-- a camp's part of a sequence from a work w is what its own calls do by themselves, on a log of the same length: as if no other camp were there
pub record AsAlone {Rows : Type 0} (rows_of : ℕ → Sheet → Rows) (no_rows : Rows) (len camp : ℕ) (w : Work) (cs : List Call) : Type 0 where
  pub answers : answers_of camp (answered (work_step rows_of no_rows len) w cs) ≡ answered (work_step rows_of no_rows len) (restrict camp w) (own_calls camp cs)
  pub end : restrict camp (final (work_step rows_of no_rows len) w cs) ≡ final (work_step rows_of no_rows len) (restrict camp w) (own_calls camp cs)
