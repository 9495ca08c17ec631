-- A call that feeds one part (document 02, No. 10): refusal 2 first, and what the call answers.
-- `sound s at`: the desk with the sheets s is sound, with `at` as used in a log of 65,536.
-- Assumes nothing.
use Rattle.std.specs.Prelude.{ℕ, ◌≡◌, Bool, true, false, cond, ◌&&◌, List, [], ◌∷◌, ◌++◌, length, replicate}
use Rattle.reader_cuts.specs.Reading.{Reading, waiting, undecided, place_answered, read_all, read_whole, feed}

-- a call's whole answer, and the reading after it
pub record Called (S : Type 0) : Type 0 where
  pub answer : ℕ
  pub place : ℕ
  pub reading : Reading S

abbrev pub called_with : {S : Type 0} → Reading S → Called S
called_with r = record { answer = r.answer; place = place_answered r; reading = r }

-- its answer and its place
abbrev pub answer_and_place : {S : Type 0} → Reading S → ℕ × ℕ
answer_and_place r = (r.answer, place_answered r)

-- all bytes of the parts
abbrev pub all_bytes : List (List ℕ) → List ℕ
all_bytes [] = []
all_bytes (p ∷ ps) = p ++ all_bytes ps

-- parts that are not marked as the last
abbrev pub unmarked : List (List ℕ) → List (List ℕ × Bool)
unmarked [] = []
unmarked (p ∷ ps) = (p, false) ∷ unmarked ps

-- the calls of a log in parts, p the last of them, and any calls after it, with any marks
abbrev pub calls_of : List (List ℕ) → List ℕ → List (List ℕ × Bool) → List (List ℕ × Bool)
calls_of ps p more = unmarked ps ++ ((p, true) ∷ more)

module _ {S : Type 0} (refusal : ℕ → List ℕ → S → ℕ) (store : List ℕ → S → S) (sound : S → ℕ → Bool) where
  abbrev pub sound_reading : Reading S → Bool
  sound_reading r = sound r.sheets r.at && undecided r.rest

  -- "Refusals: 2 first ..", and "with 2 the whole part changes nothing"
  unfoldable pub call : Reading S → List ℕ → Bool → Called S
  call r part last = cond (sound_reading r) (called_with (feed refusal store r part last)) (record { answer = 2; place = 0; reading = r })

  -- what each of the calls answers, with its place
  abbrev pub answers : Reading S → List (List ℕ × Bool) → List (ℕ × ℕ)
  answers r [] = []
  answers r (c ∷ cs) = let k = call r c.0 c.1 in (k.answer, k.place) ∷ answers k.reading cs

  -- and what all of them leave
  abbrev pub after_calls : Reading S → List (List ℕ × Bool) → Reading S
  after_calls r [] = r
  after_calls r (c ∷ cs) = after_calls (call r c.0 c.1).reading cs

  -- the answers of parts that are not the last: each is that of the bytes up to its end, bs the bytes before the first part
  abbrev pub answers_so_far : S → List ℕ → List (List ℕ) → List (ℕ × ℕ)
  answers_so_far s bs [] = []
  answers_so_far s bs (p ∷ ps) = answer_and_place (read_all refusal store false s 0 (bs ++ p)) ∷ answers_so_far s (bs ++ p) ps

  -- the claim: "However it is cut, with parts of no bytes too, the sheets and the final answer agree with reading it whole";
  -- parts "after the last part, change nothing and repeat its answer"
  pub record Agrees (s : S) (ps : List (List ℕ)) (p : List ℕ) (more : List (List ℕ × Bool)) : Type 0 where
    pub reading : after_calls (waiting s 0 []) (calls_of ps p more) ≡ read_whole refusal store s (all_bytes ps ++ p)
    pub told_so : answers (waiting s 0 []) (calls_of ps p more)
        ≡ answers_so_far s [] ps ++ (answer_and_place (read_whole refusal store s (all_bytes ps ++ p)) ∷ replicate (length more) (answer_and_place (read_whole refusal store s (all_bytes ps ++ p))))
