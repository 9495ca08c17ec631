-- Laws for the call: what it answers by each of its tests.
-- Assumes nothing.
use mathlib.Core.Path.{◌≡◌, refl, sym, ap, ◌∙◌}
use mathlib.Core.Bool.{Bool, true, false, false≢true}
use mathlib.Core.List.{List, ◌++◌}
use Prim.Native.Nat.{ℕ, ◌≤◌, ◌<◌}
use native.Mathlib.Omega.{arith}
use borrow.Author.Tests.{eqb-true, eq-eqb, ne_eqb}
use lib.Dec.{eqb}
use lib.ListN.{length, get_or, take, length-take}
use Rattle.std.specs.Prelude.{None}
use Rattle.text.proofs.Bools.{and_both, not-holds}
use Rattle.desk_memory.specs.Memory.{is_desk, desk_of, used_of}
use Rattle.reader_cuts.specs.Reading.{undecided, place_for}
use Rattle.reader_cuts.proofs.Firsts.{undecided-short}
use Rattle.reader_answers.specs.declared.FeedRefusal.{FeedRefusal}
use Rattle.reader_answers.specs.Number.{refusal_number}
use Rattle.reader_answers.proofs.Numbers.{refused-some}
use Rattle.reader_memory.specs.declared.Standing.{Standing}
use Rattle.reader_memory.specs.declared.Standing.TheVariants.{GoesOn, Ended, Refused}
use Rattle.reader_memory.specs.Standings.{StandsSo}
use Rattle.reader_memory.specs.Memory.{reader_kept, reader_state, kept_in, stands_at, is_reader, answer_at}
use Rattle.reader_entries.specs.Judged.{sound_at, read_on}
use Rattle.reader_entries.proofs.Keeps.{sound-desk, desk-sound}
use Rattle.reader_steps.specs.Steps.{sound_here}
use Rattle.reader_left.specs.Left.{left, left_as}
use Rattle.reader_feed.specs.Feed.{sound_reader, feed_of, FeedLent, ReadsFrom, Readable}

-- a reader's memory has its lengths
pub reader-long : (k z : List ℕ) → is_reader k z ≡ true → (length k ≡ reader_kept) × (length z ≡ reader_state)
unfolding is_reader
reader-long k z e =
    let a = and_both (eqb (length k) reader_kept) _ e in
    let b = and_both (eqb (length z) reader_state) _ a.1 in
    (eqb-true (length k) reader_kept a.0, eqb-true (length z) reader_state b.0)

-- an undecided record's bytes are within a reader's memory
pub kept-within : (k z : List ℕ) → is_reader k z ≡ true → undecided (kept_in k z) ≡ true → get_or z 0 0 ≤ reader_kept
kept-within k z r u =
    let l = undecided-short (kept_in k z) u in
    let long = length-take (get_or z 0 0) k in
    omega (arith, l, long, (reader-long k z r).0)

pub kept-outside : (k z : List ℕ) → is_reader k z ≡ true → reader_kept < get_or z 0 0 → undecided (kept_in k z) ≡ false
kept-outside k z r h = not-holds (undecided (kept_in k z)) (λ u. let w = kept-within k z r u in omega (arith, h, w))

module _ (t n k z part : List ℕ) (last : Bool) where
  unsound-so : (is_desk t n ≡ true → sound_reader (desk_of t n) (used_of n) k z ≡ false) → FeedLent t n k z part last 2 0 t n k z
  unfolding feed_of
  unsound-so e = record {
    desk = λ d. sym (rw (e d));
    no_desk = λ d. (refl, refl, refl, refl, refl, refl);
    same_length = (refl, refl);
  }

  -- 2: the desk or the reader's memory is not sound
  pub fed-unsound : Readable t n k z None → FeedLent t n k z part last 2 0 t n k z
  unfolding sound_reader
  fed-unsound e =
      unsound-so (λ d.
      not-holds (sound_reader (desk_of t n) (used_of n) k z) (λ h.
      let b = and_both (sound_at (desk_of t n) (used_of n)) _ h in
      let s : sound_here t n ≡ true = desk-sound t n d b.0 in
      false≢true (sym e ∙ simp (s, b.1))))

  module _ (len : ℕ) (s : Standing) (p : ReadsFrom t n k z len s) where
    is-sound : sound_reader (desk_of t n) (used_of n) k z ≡ true
    unfolding sound_reader
    is-sound = simp ((sound-desk t n p.sound).1, p.reader, p.waits)

    -- the reading is over: the same again
    again-so : (a place : ℕ) → (stands_at z ≡ 0 → ⊥) → a ≡ answer_at (stands_at z) → place ≡ place_for a (used_of n) → FeedLent t n k z part last a place t n k z
    unfolding feed_of
    again-so a place ne e q = record {
      desk = λ d.
          ap (λ (x : ℕ). left a x (desk_of t n) (used_of n) k z) q ∙ ap (λ (x : ℕ). left x (place_for x (used_of n)) (desk_of t n) (used_of n) k z) e
          ∙ sym (rw (is-sound, ne_eqb (stands_at z) 0 ne));
      no_desk = λ d. absurd (false≢true (sym d ∙ (sound-desk t n p.sound).0));
      same_length = (refl, refl);
    }

    pub fed-ended : s ≡ Ended → FeedLent t n k z part last 0 0 t n k z
    fed-ended e = let q : StandsSo (stands_at z) Ended = rw e at p.stands in again-so 0 0 (λ x. omega (arith, q.0, x)) q.1 refl

    pub fed-refused : (r : FeedRefusal) → s ≡ Refused r → FeedLent t n k z part last (refusal_number r) (used_of n) t n k z
    fed-refused r e =
        let q : StandsSo (stands_at z) (Refused r) = rw e at p.stands in
        again-so (refusal_number r) (used_of n) (λ x. refused-some r (q.0 ∙ x)) q.1 (rw (ne_eqb (refusal_number r) 0 (refused-some r)))

    -- the part is read
    pub fed-read : (a place : ℕ) (t' n' k' z' : List ℕ) → s ≡ GoesOn → (length t' ≡ length t) × (length n' ≡ length n)
        → left a place (desk_of t' n') (used_of n') k' z' ≡ left_as (read_on last (desk_of t n) (used_of n) (take len k ++ part)) → FeedLent t n k z part last a place t' n' k' z'
    unfolding feed_of
    fed-read a place t' n' k' z' e l so =
        let q : StandsSo (stands_at z) GoesOn = rw e at p.stands in
        record {
          desk = λ d.
              so ∙ ap (λ (i : ℕ). left_as (read_on last (desk_of t n) (used_of n) (take i k ++ part))) p.kept ∙ sym (rw (is-sound, eq-eqb (stands_at z) 0 (sym q.0)));
          no_desk = λ d. absurd (false≢true (sym d ∙ (sound-desk t n p.sound).0));
          same_length = l;
        }

    pub fed-fresh : (a place : ℕ) (t' n' k' z' : List ℕ) → s ≡ GoesOn → len ≡ 0 → (length t' ≡ length t) × (length n' ≡ length n)
        → left a place (desk_of t' n') (used_of n') k' z' ≡ left_as (read_on last (desk_of t n) (used_of n) part) → FeedLent t n k z part last a place t' n' k' z'
    fed-fresh a place t' n' k' z' e none l so =
        fed-read a place t' n' k' z' e l (so ∙ ap (λ (i : ℕ). left_as (read_on last (desk_of t n) (used_of n) (take i k ++ part))) (sym none))
