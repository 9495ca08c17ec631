-- Feeding parts in memory follows reading in parts, so that each theorem about readings is one about parts.
-- Assumes nothing.
use mathlib.Core.Path.{◌≡◌, refl, ap, ◌∙◌}
use mathlib.Core.Bool.{Bool, true, false, cond}
use mathlib.Core.List.{List, [], ◌∷◌, ◌++◌}
use mathlib.Core.Logic.{◌⊎◌, inl, inr}
use Prim.Native.Nat.{ℕ, ◌+◌, ◌-◌, ◌≤◌}
use native.Mathlib.Omega.{arith}
use borrow.Author.Tests.{le-leb, lt-leb, ne_eqb}
use lib.Dec.{eqb}
use lib.ListN.{length, replicate, length-append, length-replicate}
use lib.Seq.{take_at}
use Rattle.text.specs.Run.{between}
use Rattle.text.proofs.Bools.{cond-keeps}
use Rattle.desk_state.specs.declared.desk.Desk.{Desk}
use Rattle.reader_cuts.specs.Reading.{Reading, feed}
use Rattle.reader_cuts.specs.Called.{Called, called_with, sound_reading, call, answers, after_calls}
use Rattle.reader_cuts.proofs.Firsts.{undecided-short}
use Rattle.reader_cuts.proofs.Told.{Known, answers-known}
use Rattle.reader_memory.specs.Memory.{reader_kept, kept_in, is_standing, is_reader, answer_at, over_with, kept_of, state_numbers}
use Rattle.reader_entries.specs.Judged.{refusal_of, store_of, sound_at}
use Rattle.reader_entries.proofs.Judged.{refusal-known}
use Rattle.reader_left.specs.Left.{Left, left}
use Rattle.reader_feed.specs.Feed.{sound_reader, feed_of}
use Rattle.theorem_reader.specs.Parts.{Between, LogPart, after_parts, part_answers}
use Rattle.theorem_reader.specs.Parts as parts

abbrev Good : Reading Desk → Type 0
Good = Known refusal_of store_of

-- the memory that keeps a reading
abbrev pub view : Reading Desk → Between
view r = record { desk = r.sheets; used = r.at; kept = kept_of r; state = state_numbers r }

abbrev pub left_called : Called Desk → Left
left_called k = left k.answer k.place k.reading.sheets k.reading.at (kept_of k.reading) (state_numbers k.reading)

abbrev called : Reading Desk → List ℕ → Bool → Called Desk
called = call refusal_of store_of sound_at

-- ---- the reader's memory tells the reading

kept-is : (r : Reading Desk) → kept_in (kept_of r) (state_numbers r) ≡ r.rest
kept-is r = take_at r.rest (replicate (reader_kept - length r.rest) 0) (length r.rest) refl

over-stands : (a : ℕ) → (a ≡ 0) ⊎ ((18 ≤ a) × (a ≤ 20)) → (is_standing (over_with a) ≡ true) × (eqb (over_with a) 0 ≡ false) × (answer_at (over_with a) ≡ a)
unfolding is_standing answer_at between
over-stands a (inl e) = rw e (refl, refl, refl)
over-stands a (inr h) =
    let n : eqb a 0 ≡ false = ne_eqb a 0 (λ z. omega (arith, z, h.0)) in
    let lo = le-leb 18 a h.0 in
    let hi = le-leb a 20 h.1 in
    let some = lt-leb a 1 (omega (arith, h.0)) in
    rw n (rw (some, lo, hi), n, rw (lo, hi))

module _ (r : Reading Desk) (g : Good r) where
  kept-long : length (kept_of r) ≡ reader_kept
  kept-long =
      let l = undecided-short r.rest g.waits in
      length-append r.rest (replicate (reader_kept - length r.rest) 0) ∙ ap (λ (n : ℕ). length r.rest + n) (length-replicate (reader_kept - length r.rest) 0)
      ∙ omega (arith, l)

  reader-is : is_reader (kept_of r) (state_numbers r) ≡ true
  unfolding is_reader is_standing
  reader-is = rw (kept-long) (go r.over refl)
    where
      go : (o : Bool) → r.over ≡ o → is_standing (cond r.over (over_with r.answer) 0) ≡ true
      go true e = rw e (over-stands r.answer g.known).0
      go false e = rw e

  sound-is : sound_reader r.sheets r.at (kept_of r) (state_numbers r) ≡ sound_reading refusal_of store_of sound_at r
  unfolding sound_reader
  sound-is = rw (reader-is, kept-is r)

  -- one call
  pub follows : (part : List ℕ) (last : Bool) → feed_of r.sheets r.at (kept_of r) (state_numbers r) part last ≡ left_called (call refusal_of store_of sound_at r part last)
  unfolding feed_of call feed
  follows part last = go (sound_reading refusal_of store_of sound_at r) r.over refl refl
    where
      go : (a b : Bool) → sound_reading refusal_of store_of sound_at r ≡ a → r.over ≡ b
          → feed_of r.sheets r.at (kept_of r) (state_numbers r) part last ≡ left_called (call refusal_of store_of sound_at r part last)
      go true true p q =
          let s = over-stands r.answer g.known in
          rw (sound-is, p, q, s.1, s.2)
      go true false p q = rw (sound-is, p, q, kept-is r)
      go false b p q = rw (sound-is, p)

feed-known : (r : Reading Desk) → Good r → (part : List ℕ) (last : Bool) → Good (feed refusal_of store_of r part last)
unfolding feed
feed-known r g part last =
    cond-keeps Good r.over _ _ (λ e. g) (λ e. answers-known refusal_of store_of refusal-known last r.sheets r.at (r.rest ++ part))

pub call_known : (r : Reading Desk) → Good r → (part : List ℕ) (last : Bool) → Good (call refusal_of store_of sound_at r part last).reading
unfolding call
call_known r g part last = go (sound_reading refusal_of store_of sound_at r) (feed refusal_of store_of r part last) (feed-known r g part last)
  where
    go : (a : Bool) (f : Reading Desk) → Good f → Good (cond a (called_with f) (record { answer = 2; place = 0; reading = r })).reading
    go true f k = k
    go false f k = g

-- any calls
pub after-known : (r : Reading Desk) → Good r → (cs : List LogPart) → Good (after_calls refusal_of store_of sound_at r cs)
after-known r g [] = g
after-known r g (c ∷ cs) = after-known (called r c.0 c.1).reading (call_known r g c.0 c.1) cs

pub follows-after : (r : Reading Desk) → Good r → (cs : List LogPart) → after_parts (view r) cs ≡ view (after_calls refusal_of store_of sound_at r cs)
follows-after r g [] = refl
follows-after r g (c ∷ cs) =
    ap (λ (l : Left). after_parts (parts.left_for l) cs) (follows r g c.0 c.1)
    ∙ follows-after (called r c.0 c.1).reading (call_known r g c.0 c.1) cs

pub follows-answers : (r : Reading Desk) → Good r → (cs : List LogPart) → part_answers (view r) cs ≡ answers refusal_of store_of sound_at r cs
follows-answers r g [] = refl
follows-answers r g (c ∷ cs) =
    ap (λ (l : Left). (l.answer, l.place) ∷ part_answers (parts.left_for l) cs) (follows r g c.0 c.1)
    ∙ ap (λ (l : List (ℕ × ℕ)). ((called r c.0 c.1).answer, (called r c.0 c.1).place) ∷ l)
    (follows-answers (called r c.0 c.1).reading (call_known r g c.0 c.1) cs)
