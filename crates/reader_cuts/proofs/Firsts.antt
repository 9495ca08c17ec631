-- Laws of the first record: it is not yet decided, or refused, or taken and the rest is read on, whatever bytes follow.
-- Assumes nothing.
use mathlib.Core.Path.{◌≡◌, refl}
use mathlib.Core.Bool.{Bool, true, false, false≢true}
use mathlib.Core.List.{List, ◌++◌}
use mathlib.Core.Logic.{◌⊎◌, inl, inr}
use Prim.Native.Nat.{ℕ, ◌+◌, ◌≤◌, ◌<◌}
use native.Mathlib.Omega.{arith}
use borrow.Author.Tests.{lt-ltb, le-ltb, ltb-true, ltb-false, eqb-true, eqb-false}
use lib.Dec.{ltb, eqb}
use lib.ListN.{length, take, drop}
use Rattle.desk_log.specs.Record.{head_length, length_told}
use Rattle.reader_cuts.specs.Reading.{length_least, length_most, bad_length, undecided, ended, short, read_all}
use Rattle.reader_cuts.specs.First.{First, stays, first_of}
use Rattle.reader_cuts.proofs.Laws.{good_length, read-few, read-part, front-bad, front-refused, front-taken, Look, look, few, bad, part, refused, taken, undecided-few, undecided-part}

module _ {S : Type 0} (refusal : ℕ → List ℕ → S → ℕ) (store : List ℕ → S → S) (s : S) (at : ℕ) (bs : List ℕ) where
  abbrev first : First S
  first = first_of refusal store s at bs

  -- the first record, case by case
  pub first-few : length bs < head_length → first_of refusal store s at bs ≡ stays 0 s at
  unfolding first_of
  first-few h = rw (lt-ltb (length bs) head_length h)

  module _ (h : head_length ≤ length bs) where
    pub first-bad : bad_length (length_told bs) ≡ true → first_of refusal store s at bs ≡ stays 18 s at
    unfolding first_of
    first-bad b = rw (le-ltb (length bs) head_length h, b)

    module _ (g : bad_length (length_told bs) ≡ false) where
      pub first_part : length bs < length_told bs → first_of refusal store s at bs ≡ stays 0 s at
      unfolding first_of
      first_part l = rw (le-ltb (length bs) head_length h, g, lt-ltb (length bs) (length_told bs) l)

      module _ (w : length_told bs ≤ length bs) where
        pub first-refused : eqb (refusal at (take (length_told bs) bs) s) 0 ≡ false
            → first_of refusal store s at bs ≡ stays (refusal at (take (length_told bs) bs) s) s at
        unfolding first_of
        first-refused e = rw (le-ltb (length bs) head_length h, g, le-ltb (length bs) (length_told bs) w, e)

        pub first_taken : eqb (refusal at (take (length_told bs) bs) s) 0 ≡ true → first_of refusal store s at bs
            ≡ record { bytes = length_told bs; answer = 0; sheets = store (take (length_told bs) bs) s; at = at + length_told bs }
        unfolding first_of
        first_taken e = rw (le-ltb (length bs) head_length h, g, le-ltb (length bs) (length_told bs) w, e)

-- what reading does, by the first record
pub record Goes {S : Type 0} (refusal : ℕ → List ℕ → S → ℕ) (store : List ℕ → S → S) (s : S) (at : ℕ) (bs : List ℕ) (f : First S) : Type 0 where
  -- no record is taken: the sheets and its start are as they were
  pub none : f.bytes ≡ 0 → (f.sheets ≡ s) × (f.at ≡ at)
  -- and it is not yet decided,
  pub waits : f.bytes ≡ 0 → f.answer ≡ 0 → undecided bs ≡ true
  -- or it is refused, whatever follows
  pub stops : (last : Bool) (more : List ℕ) → (f.answer ≡ 0 → ⊥) → read_all refusal store last s at (bs ++ more) ≡ ended f.answer s at
  -- or it is taken, and all behind it is read
  pub goes : (last : Bool) (more : List ℕ) → (f.bytes ≡ 0 → ⊥) → read_all refusal store last s at (bs ++ more)
      ≡ read_all refusal store last f.sheets f.at (drop f.bytes bs ++ more)
  pub within : f.bytes ≤ length bs
  -- a record that is taken has a good length, is the bytes' first part, and was not refused
  pub took : (f.bytes ≡ 0 → ⊥) → (length_least ≤ f.bytes) × (f.bytes ≤ length_most) × (refusal at (take f.bytes bs) s ≡ 0) × (f.sheets ≡ store (take f.bytes bs) s)
      × (f.at ≡ at + f.bytes)
  pub took-0 : (f.bytes ≡ 0 → ⊥) → f.answer ≡ 0
  pub told : (f.bytes ≡ 0 → ⊥) → f.bytes ≡ length_told bs

pub first_goes : {S : Type 0} (refusal : ℕ → List ℕ → S → ℕ) (store : List ℕ → S → S) (s : S) (at : ℕ) (bs : List ℕ)
    → Goes refusal store s at bs (first_of refusal store s at bs)
first_goes {S = S} refusal store s at bs = go (look refusal s at bs)
  where
    stay-0 : undecided bs ≡ true → Goes refusal store s at bs (stays 0 s at)
    stay-0 u = record {
      none = λ e. (refl, refl);
      waits = λ e f. u;
      stops = λ last more ne. absurd (ne refl);
      goes = λ last more ne. absurd (ne refl);
      within = omega arith;
      took = λ ne. absurd (ne refl);
      took-0 = λ ne. refl;
      told = λ ne. absurd (ne refl);
    }

    stay-so : (a : ℕ) → (a ≡ 0 → ⊥) → ((last : Bool) (more : List ℕ) → read_all refusal store last s at (bs ++ more) ≡ ended a s at) → Goes refusal store s at bs (stays a s at)
    stay-so a na e = record {
      none = λ e. (refl, refl);
      waits = λ z f. absurd (na f);
      stops = λ last more ne. e last more;
      goes = λ last more ne. absurd (ne refl);
      within = omega arith;
      took = λ ne. absurd (ne refl);
      took-0 = λ ne. absurd (ne refl);
      told = λ ne. absurd (ne refl);
    }

    go : Look refusal s at bs → Goes refusal store s at bs (first_of refusal store s at bs)
    go (few l) = rw (first-few refusal store s at bs l) (stay-0 (undecided-few bs l))
    go (bad l q) = rw (first-bad refusal store s at bs l q) (stay-so 18 (λ z. omega (arith, z)) (λ last more. front-bad refusal store last s at bs more l q))
    go (part l q w) = rw (first_part refusal store s at bs l q w) (stay-0 (undecided-part bs q w))
    go (refused l q w e) =
        rw (first-refused refusal store s at bs l q w e)
        (stay-so (refusal at (take (length_told bs) bs) s) (eqb-false (refusal at (take (length_told bs) bs) s) 0 e) (λ last more. front-refused refusal store last s at bs more l q w e))
    go (taken l q w e) =
        let k = good_length (length_told bs) q in
        rw (first_taken refusal store s at bs l q w e)
        (record {
          none = λ z. absurd (omega (arith, z, k.0));
          waits = λ z. absurd (omega (arith, z, k.0));
          stops = λ last more ne. absurd (ne refl);
          goes = λ last more ne. front-taken refusal store last s at bs more l q w e;
          within = w;
          took = λ ne. (k.0, k.1, eqb-true (refusal at (take (length_told bs) bs) s) 0 e, refl, refl);
          took-0 = λ ne. refl;
          told = λ ne. refl;
        })

-- bytes that do not decide a record are fewer than six, or than the good length that they tell
pub undecided-cases : {C : Type 0} (bs : List ℕ) → undecided bs ≡ true → (length bs < head_length → C)
    → (head_length ≤ length bs → bad_length (length_told bs) ≡ false → length bs < length_told bs → C) → C
unfolding undecided
undecided-cases {C} bs e f g = go (ltb (length bs) head_length) (bad_length (length_told bs)) (ltb (length bs) (length_told bs)) refl refl refl
  where
    go : (a b c : Bool) → ltb (length bs) head_length ≡ a → bad_length (length_told bs) ≡ b → ltb (length bs) (length_told bs) ≡ c → C
    go true b c p q r = f (ltb-true (length bs) head_length p)
    go false false true p q r = g (ltb-false (length bs) head_length p) q (ltb-true (length bs) (length_told bs) r)
    go false true c p q r = let z = simp (p, q) at e in absurd (false≢true z)
    go false false false p q r = let z = simp (p, q, r) at e in absurd (false≢true z)

-- they are read so
pub read-undecided : {S : Type 0} (refusal : ℕ → List ℕ → S → ℕ) (store : List ℕ → S → S) (last : Bool) (s : S) (at : ℕ) (bs : List ℕ) → undecided bs ≡ true
    → read_all refusal store last s at bs ≡ short last s at bs
read-undecided refusal store last s at bs e = undecided-cases bs e (read-few refusal store last s at bs) (read-part refusal store last s at bs)

-- as many bytes as a longest record has decide one
pub undecided-short : (bs : List ℕ) → undecided bs ≡ true → length bs < length_most
undecided-short bs e = undecided-cases bs e (λ l. omega (arith, l)) (λ h q l. let g = good_length (length_told bs) q in omega (arith, g.1, l))

pub undecided-less : (bs : List ℕ) → undecided bs ≡ true → (length bs < head_length) ⊎ (length bs < length_told bs)
undecided-less bs e = undecided-cases bs e (λ l. inl l) (λ h q l. inr l)
