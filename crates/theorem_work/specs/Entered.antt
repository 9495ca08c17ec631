-- An accepted entry, and what a bench has typed, by calls and their answers (document 01, "Sequences of calls").
-- Assumes nothing.
use Rattle.std.specs.Prelude.{ℕ, ◌≡◌, cond, ◌&&◌, List, [], ◌∷◌, eqb, set}
use Rattle.line_items.specs.Items.{IsName}
use Rattle.line_reader.specs.Wording.{IsLine}
use Rattle.theorem_work.specs.Calls.{Call, key, ask, Reply, keyed, reported, told}
use Rattle.theorem_work.specs.Work.{Entry, Work, typed_by, accepts, text_after}

-- an Enter of a bench that added an entry: "Its line, name and value, is what its bench had typed"
pub record Entered (bench : ℕ) (before after : Work) : Type 0 where
  pub new : Entry
  pub added : after.entries ≡ new ∷ before.entries
  pub of_bench : new.bench ≡ bench
  pub line : new.line ≡ typed_by before bench
  pub name : List ℕ
  pub parts : IsLine new.line name new.value
  pub item : IsName name new.item
  -- "its Enter empties"
  pub emptied : after.typed ≡ set before.typed bench []

-- the bench of a call that is an Enter with answer 0, put before those of earlier calls; of any other call nothing
abbrev pub entered_first : {Rows : Type 0} → Call → Reply Rows → List ℕ → List ℕ
entered_first (key bench byte) (keyed a) bs = cond (eqb byte 10 && accepts a) (bench ∷ bs) bs
entered_first (key bench byte) (reported a rows) bs = bs
entered_first (key bench byte) (told t) bs = bs
entered_first (ask q) r bs = bs

-- the benches of the Enters with answer 0, the newest first; bs are those of earlier calls
abbrev pub entered_by : {Rows : Type 0} → List ℕ → List (Call × Reply Rows) → List ℕ
entered_by bs [] = bs
entered_by bs (p ∷ ps) = entered_by (entered_first p.0 p.1 bs) ps

-- the text t after a call, by that call and its answer
abbrev pub text_one : {Rows : Type 0} → Call → Reply Rows → List ℕ → List ℕ
text_one (key bench byte) (keyed a) t = text_after a byte t
text_one (key bench byte) (reported a rows) t = t
text_one (key bench byte) (told x) t = t
text_one (ask q) r t = t

-- the text t after calls with their answers
abbrev pub text_after_calls : {Rows : Type 0} → List ℕ → List (Call × Reply Rows) → List ℕ
text_after_calls t [] = t
text_after_calls t (p ∷ ps) = text_after_calls (text_one p.0 p.1 t) ps
