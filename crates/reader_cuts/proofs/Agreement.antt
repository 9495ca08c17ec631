-- From sound sheets no call of a reading gets 2, and all calls together agree with reading the log whole.
-- Assumes nothing.
use mathlib.Core.Path.{◌≡◌, refl, sym, ap, subst, ◌∙◌}
use mathlib.Core.Bool.{Bool, true, false}
use mathlib.Core.List.{List, [], ◌∷◌, ◌++◌, append_assoc}
use Prim.Native.Nat.{ℕ, ◌+◌, ◌≤◌}
use native.Mathlib.Omega.{arith}
use borrow.Author.Tests.{eqb-true}
use lib.Dec.{eqb}
use lib.ListN.{length, take, replicate}
use lib.Seq.{length-take-le}
use Rattle.text.proofs.Bools.{and-true-true, cond-keeps}
use Rattle.desk_log.specs.Record.{length_told}
use Rattle.reader_cuts.specs.Reading.{length_least, length_most, bad_length, undecided, Reading, waiting, ended, short, read_all, read_whole, feed}
use Rattle.reader_cuts.specs.Called.{Called, called_with, call, answers, after_calls, answer_and_place, answers_so_far, calls_of, Agrees, all_bytes}
use Rattle.reader_cuts.proofs.Laws.{good_length, read-few, undecided-few, every-reading}
use Rattle.reader_cuts.proofs.Cuts.{feed-over, next-part, whole-over}

-- `Fine s at` implies that the sheets are sound, and a record that is taken keeps it
module _ {S : Type 0} (refusal : ℕ → List ℕ → S → ℕ) (store : List ℕ → S → S) (sound : S → ℕ → Bool) (Fine : S → ℕ → Type 0)
    (fine-sound : (s : S) (at : ℕ) → Fine s at → sound s at ≡ true)
    (keeps : (s : S) (at : ℕ) (r : List ℕ) → Fine s at → length_least ≤ length r → length r ≤ length_most → refusal at r s ≡ 0 → Fine (store r s) (at + length r)) where
  pub record Good (r : Reading S) : Type 0 where
    pub fine : Fine r.sheets r.at
    pub waits : undecided r.rest ≡ true

  good-short : (last : Bool) (s : S) (at : ℕ) (bs : List ℕ) → Fine s at → undecided bs ≡ true → Good (short last s at bs)
  good-short false s at bs h u = record { fine = h; waits = u }
  good-short true s at [] h u = record { fine = h; waits = undecided-few [] (omega arith) }
  good-short true s at (b ∷ bs) h u = record { fine = h; waits = undecided-few [] (omega arith) }

  good-ended : (a : ℕ) (s : S) (at : ℕ) → Fine s at → Good (ended a s at)
  good-ended a s at h = record { fine = h; waits = undecided-few [] (omega arith) }

  pub read-good : (last : Bool) (s : S) (at : ℕ) (bs : List ℕ) → Fine s at → Good (read_all refusal store last s at bs)
  read-good last s at bs =
      every-reading refusal store last (λ t k cs r. Fine t k → Good r)
      (λ t k cs u g. good-short last t k cs g u)
      (λ t k cs h b g. good-ended 18 t k g)
      (λ t k cs h q w e g. good-ended (refusal k (take (length_told cs) cs) t) t k g)
      (λ t k cs r h q w e p g. p (sound_more t k cs q w e g))
      s at bs
    where
      sound_more : (t : S) (k : ℕ) (cs : List ℕ) → bad_length (length_told cs) ≡ false → length_told cs ≤ length cs → eqb (refusal k (take (length_told cs) cs) t) 0 ≡ true
          → Fine t k → Fine (store (take (length_told cs) cs) t) (k + length_told cs)
      sound_more t k cs q w e g =
          let x : List ℕ = take (length_told cs) cs in
          let b = good_length (length_told cs) q in
          let l = length-take-le (length_told cs) cs w in
          rw l at (keeps t k x g (omega arith) (omega arith) (eqb-true (refusal k x t) 0 e))

  -- a call on a good reading is not refused with 2
  pub call-good : (r : Reading S) (p : List ℕ) (last : Bool) → Good r → call refusal store sound r p last ≡ called_with (feed refusal store r p last)
  unfolding call
  call-good r p last g = rw (and-true-true (sound r.sheets r.at) (undecided r.rest) (fine-sound r.sheets r.at g.fine) g.waits)

  module _ (s : S) (fresh : Fine s 0) where
    abbrev so_far : List ℕ → Reading S
    so_far bs = read_all refusal store false s 0 bs

    one : (bs p : List ℕ) (last : Bool) → call refusal store sound (so_far bs) p last ≡ called_with (read_all refusal store last s 0 (bs ++ p))
    one bs p last = call-good (so_far bs) p last (read-good false s 0 bs fresh)
        ∙ ap (λ (r : Reading S). called_with r) (next-part refusal store last s 0 bs p)

    -- a reading that is over answers the same for ever
    module _ (r : Reading S) (g : Good r) (e : r.over ≡ true) where
      stays : (p : List ℕ) (last : Bool) → call refusal store sound r p last ≡ called_with r
      stays p last = call-good r p last g ∙ ap (λ (x : Reading S). called_with x) (feed-over refusal store r p last e)

      stays_after : (cs : List (List ℕ × Bool)) → after_calls refusal store sound r cs ≡ r
      stays_after [] = refl
      stays_after (c ∷ cs) = ap (λ (k : Called S). after_calls refusal store sound k.reading cs) (stays c.0 c.1) ∙ stays_after cs

      stays-answers : (cs : List (List ℕ × Bool)) → answers refusal store sound r cs ≡ replicate (length cs) (answer_and_place r)
      stays-answers [] = refl
      stays-answers (c ∷ cs) =
          ap (λ (k : Called S). (k.answer, k.place) ∷ answers refusal store sound k.reading cs) (stays c.0 c.1)
          ∙ ap (λ (l : List (ℕ × ℕ)). answer_and_place r ∷ l) (stays-answers cs)

    module _ (p : List ℕ) (more : List (List ℕ × Bool)) where
      after-from : (bs : List ℕ) (ps : List (List ℕ))
          → after_calls refusal store sound (so_far bs) (calls_of ps p more) ≡ read_whole refusal store s (bs ++ (all_bytes ps ++ p))
      after-from bs [] =
          ap (λ (k : Called S). after_calls refusal store sound k.reading more) (one bs p true)
          ∙ stays_after (read_whole refusal store s (bs ++ p)) (read-good true s 0 (bs ++ p) fresh)
          (whole-over refusal store s 0 (bs ++ p)) more
      after-from bs (q ∷ ps) =
          ap (λ (k : Called S). after_calls refusal store sound k.reading (calls_of ps p more)) (one bs q false)
          ∙ after-from (bs ++ q) ps ∙ ap (read_whole refusal store s) (simp append_assoc)

      abbrev wholes : List ℕ → List (ℕ × ℕ)
      wholes bs = answer_and_place (read_whole refusal store s bs) ∷ replicate (length more) (answer_and_place (read_whole refusal store s bs))

      answers-from : (bs : List ℕ) (ps : List (List ℕ))
          → answers refusal store sound (so_far bs) (calls_of ps p more)
          ≡ answers_so_far refusal store sound s bs ps ++ wholes (bs ++ (all_bytes ps ++ p))
      answers-from bs [] =
          ap (λ (k : Called S). (k.answer, k.place) ∷ answers refusal store sound k.reading more) (one bs p true)
          ∙ ap (λ (l : List (ℕ × ℕ)). answer_and_place (read_whole refusal store s (bs ++ p)) ∷ l)
          (stays-answers (read_whole refusal store s (bs ++ p)) (read-good true s 0 (bs ++ p) fresh)
          (whole-over refusal store s 0 (bs ++ p)) more)
      answers-from bs (q ∷ ps) =
          ap (λ (k : Called S). (k.answer, k.place) ∷ answers refusal store sound k.reading (calls_of ps p more)) (one bs q false)
          ∙ ap (λ (l : List (ℕ × ℕ)). answer_and_place (so_far (bs ++ q)) ∷ l) (answers-from (bs ++ q) ps)
          ∙ ap (λ (l : List ℕ). answer_and_place (so_far (bs ++ q)) ∷ (answers_so_far refusal store sound s (bs ++ q) ps ++ wholes l)) (simp append_assoc)

      pub agrees : (ps : List (List ℕ)) → Agrees refusal store sound s ps p more
      agrees ps =
          let e : so_far [] ≡ waiting s 0 [] = read-few refusal store false s 0 [] (omega arith) in
          record {
            reading = ap (λ (r : Reading S). after_calls refusal store sound r (calls_of ps p more)) (sym e) ∙ after-from [] ps;
            told_so = ap (λ (r : Reading S). answers refusal store sound r (calls_of ps p more)) (sym e) ∙ answers-from [] ps;
          }

  -- after any calls, with any marks, a reading that began so is as good
  feed-good : (r : Reading S) (p : List ℕ) (last : Bool) → Good r → Good (feed refusal store r p last)
  unfolding feed
  feed-good r p last g = cond-keeps Good r.over _ _ (λ e. g) (λ e. read-good last r.sheets r.at (r.rest ++ p) g.fine)

  pub after-good : (r : Reading S) (cs : List (List ℕ × Bool)) → Good r → Good (after_calls refusal store sound r cs)
  after-good r [] g = g
  after-good r (c ∷ cs) g =
      after-good (call refusal store sound r c.0 c.1).reading cs
      (subst (λ (k : Called S). Good k.reading) (sym (call-good r c.0 c.1 g)) (feed-good r c.0 c.1 g))
