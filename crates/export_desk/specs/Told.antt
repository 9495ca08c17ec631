-- What a C program is told of a desk, by numbers, and what the memory that it lends then holds (include/desk.h).
-- Assumes nothing.
use Rattle.std.specs.Prelude.{ℕ, cond, List, replicate}
use Rattle.desk_memory.specs.Memory.{texts_length, numbers_length, is_desk}
use Rattle.desk_questions.specs.Report.{Report, reported_as}
use Rattle.desk_questions.specs.Who.{Who}
use Rattle.file_cif.specs.Answers.{Filing}
use Rattle.desk_hydrogen.specs.Hydrogens.{Proposal}
use Rattle.export_desk.specs.declared.DeskReported.{DeskReported}
use Rattle.export_desk.specs.declared.DeskTold.{DeskTold}
use Rattle.export_desk.specs.declared.DeskFiled.{DeskFiled}
use Rattle.export_desk.specs.declared.hydrogen.DeskProposed.{DeskProposed}

-- everything that making a desk fresh leaves: the answer's number, and the whole of the memory
pub record Freshened : Type 0 where
  pub answer : ℕ
  pub texts : List ℕ
  pub numbers : List ℕ

abbrev pub freshened : ℕ → List ℕ → List ℕ → Freshened
freshened a t n = record { answer = a; texts = t; numbers = n }

-- zeros, which are a fresh desk; memory that is no desk gets 2 and stays as it is
unfoldable pub fresh_lent : List ℕ → List ℕ → Freshened
fresh_lent t n = cond (is_desk t n) (freshened 0 (replicate texts_length 0) (replicate numbers_length 0)) (freshened 2 t n)

-- what the report told
abbrev pub report_told : DeskReported → Report
report_told r = reported_as r.answer r.rows

-- what Who told
abbrev pub who_told : DeskTold → Who
who_told r = record { answer = r.answer; entry = r.entry; bench = r.bench; times = r.times }

-- what the writer told, and what the lent bytes then hold
abbrev pub filing_told : DeskFiled → List ℕ → Filing
filing_told r out = record { answer = r.answer; count = r.count; out = out }

-- what the hydrogen helper or the check of a count told
abbrev pub proposal_told : DeskProposed → Proposal
proposal_told r = record { answer = r.answer; count = r.count }
