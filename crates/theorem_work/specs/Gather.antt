-- The order in which each bench's keys are gathered before its Enter (document 01, "Sequences of calls").
-- Assumes nothing.
use Rattle.std.specs.Prelude.{ℕ, ◌+◌, ◌≡◌, Bool, true, false, cond, List, [], ◌∷◌, ◌++◌, eqb}
use Rattle.theorem_work.specs.Calls.{Question, Call, key, ask}

-- what a call is to the gathering: a key other than Enter, an Enter, or a question
pub data Kind : Type 0 where
  plain enter : ℕ → Kind
  question : Kind

-- "An Enter is byte 10 with any bench number"
abbrev pub key_kind : Bool → ℕ → Kind
key_kind true bench = enter bench
key_kind false bench = plain bench

abbrev pub kind : Call → Kind
kind (key bench byte) = key_kind (eqb byte 10) bench
kind (ask q) = question

-- the call is a key of that bench
abbrev pub of_bench : ℕ → Call → Bool
of_bench b (key bench byte) = eqb bench b
of_bench b (ask q) = false

-- the elements X are calls, or calls with their answers
module _ {X : Type 0} (call : X → Call) where
  abbrev pub cons_if : Bool → X → List X → List X
  cons_if true x xs = x ∷ xs
  cons_if false x xs = xs

  abbrev pub cons_unless : Bool → X → List X → List X
  cons_unless true x xs = xs
  cons_unless false x xs = x ∷ xs

  -- those that are keys of bench b, and the others, in the order they had
  abbrev pub own : ℕ → List X → List X
  own b [] = []
  own b (x ∷ xs) = cons_if (of_bench b (call x)) x (own b xs)

  abbrev pub others : ℕ → List X → List X
  others b [] = []
  others b (x ∷ xs) = cons_unless (of_bench b (call x)) x (others b xs)

  -- `waiting` holds the keys other than Enter that no Enter of their bench has taken yet, in the order they had
  abbrev pub gather_from : List X → List X → List X
  gather_from waiting [] = waiting
  gather_from waiting (x ∷ xs) = elim (kind (call x)) [
    | plain b ↦ gather_from (waiting ++ (x ∷ [])) xs
    | enter b ↦ own b waiting ++ (x ∷ gather_from (others b waiting) xs)
    | question ↦ x ∷ gather_from waiting xs
  ]

-- each bench's keys other than Enter stand directly before its next Enter, or, where there is none, at the end;
-- "Keys moved to one place keep the order they had"
abbrev pub gather : List Call → List Call
gather cs = gather_from (λ c. c) [] cs

-- the same of calls with their answers: an answer travels with its call
abbrev pub gather_answered : {A : Type 0} → List (Call × A) → List (Call × A)
gather_answered ps = gather_from (λ p. p.0) [] ps

-- ---- what `gather` is meant to be: `gather-regroups`, in proofs/GatherChecks.antt, says that it is, and `one_regrouping`, in proofs/OneRegrouping.antt,
-- that nothing else is

-- the Enters and questions of a sequence
abbrev pub unless_plain : Kind → Call → List Call → List Call
unless_plain (plain b) c cs = cs
unless_plain (enter b) c cs = c ∷ cs
unless_plain question c cs = c ∷ cs

abbrev pub marks : List Call → List Call
marks [] = []
marks (c ∷ cs) = unless_plain (kind c) c (marks cs)

-- the trailing keys of a sequence, which are moved to the end: those other than Enter that no Enter of their bench follows
abbrev pub is_empty : List Call → Bool
is_empty [] = true
is_empty (c ∷ cs) = false

abbrev pub if_trailing : Kind → Call → List Call → List Call → List Call
if_trailing (plain b) c later rest = cond (is_empty (own (λ c. c) b (marks later))) (c ∷ rest) rest
if_trailing (enter b) c later rest = rest
if_trailing question c later rest = rest

abbrev pub trailing : List Call → List Call
trailing [] = []
trailing (c ∷ cs) = if_trailing (kind c) c cs (trailing cs)

-- the next call is a key of bench b
abbrev pub next_of : ℕ → List Call → Bool
next_of b [] = false
next_of b (c ∷ cs) = of_bench b c

-- each key other than Enter stands directly before a key of its bench, another one or the Enter, or at the end among such keys
pub data Gathered : List Call → Type 0 where
  at_end : {cs : List Call} → marks cs ≡ [] → Gathered cs
  before_own : {b k : ℕ} {cs : List Call} → next_of b cs ≡ true → Gathered cs → Gathered (key b k ∷ cs)
  at_enter : {b : ℕ} {cs : List Call} → Gathered cs → Gathered (key b 10 ∷ cs)
  at_question : {q : Question} {cs : List Call} → Gathered cs → Gathered (ask q ∷ cs)

-- what the calls of a sequence weigh, when each weighs what f says
abbrev pub weight : (Call → ℕ) → List Call → ℕ
weight f [] = 0
weight f (c ∷ cs) = f c + weight f cs

pub record Regrouped (cs ds : List Call) : Type 0 where
  pub gathered : Gathered ds
  -- "Keys moved to one place keep the order they had": each bench's, its Enters among them, ..
  pub bench_order : (b : ℕ) → own (λ c. c) b ds ≡ own (λ c. c) b cs
  -- .. and those moved to the end, where keys of several benches meet
  pub end_order : trailing ds ≡ trailing cs
  -- Enters and questions keep theirs
  pub marks_order : marks ds ≡ marks cs
  -- no call is lost and none is added
  pub same_calls : (f : Call → ℕ) → weight f ds ≡ weight f cs
