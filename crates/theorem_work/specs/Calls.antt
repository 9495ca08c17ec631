-- Calls, and what each is answered (document 01, "Sequences of calls"): "key calls, with any bench number and byte, and Report and Who, whatever they are given".
-- No desk is mentioned here; what a call does to a desk is `step` (theorem_sequences/specs/Calls.antt).
-- Assumes nothing.
use Rattle.std.specs.Prelude.{ℕ, List, [], ◌∷◌, map}
use Rattle.desk_questions.specs.Who.{Who}

-- "Two questions": Report, and Who with an item number; document 02, No. 9: "the questions and the file writer name a sheet";
-- No. 11: profiles, "one chosen with each report"
pub data Question : Type 0 where
  report : ℕ → ℕ → Question
  who : ℕ → ℕ → Question

-- a call: a key (bench, byte) or a question; the numbers are any numbers
pub data Call : Type 0 where
  key : ℕ → ℕ → Call
  ask : Question → Call

-- a text typed by one bench: a key call for each byte; byte 10, which ends a line, is Enter
abbrev pub typing : ℕ → List ℕ → List Call
typing bench text = map (key bench) text

-- "each call's whole answer", its number in each: a key's, a report's answer and rows, what Who tells
pub data Reply (Rows : Type 0) : Type 0 where
  keyed : ℕ → Reply Rows
  reported : ℕ → Rows → Reply Rows
  told : Who → Reply Rows

-- a sequence of calls: "Each call gets the desk and log as the last one left them"
module _ {S A : Type 0} (step : Call → S → A × S) where
  -- each call with its answer
  abbrev pub answered : S → List Call → List (Call × A)
  answered s [] = []
  answered s (c ∷ cs) = (c, (step c s).0) ∷ answered (step c s).1 cs

  -- what the calls leave
  abbrev pub final : S → List Call → S
  final s [] = s
  final s (c ∷ cs) = final (step c s).1 cs
