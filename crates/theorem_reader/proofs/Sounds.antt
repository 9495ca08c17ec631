-- The test of a sound reader says what the request's words say.
-- Assumes nothing.
use mathlib.Core.Path.{◌≡◌, refl}
use mathlib.Core.Bool.{Bool, true, false, ◌&&◌, ◌||◌, not}
use mathlib.Core.List.{List}
use mathlib.Core.Logic.{◌↔◌, ◌⊎◌, inl, inr}
use Prim.Native.Nat.{ℕ, ◌≤◌}
use native.Mathlib.Omega.{arith}
use borrow.Author.Tests.{lt-ltb, leb-true, le-leb, lt-leb, eqb-true, eqb-false, eq-eqb}
use lib.Dec.{ltb, leb, eqb}
use lib.ListN.{length}
use Rattle.text.specs.Run.{between}
use Rattle.text.proofs.Bools.{and_both, or-either}
use Rattle.desk_log.specs.Record.{head_length, length_told}
use Rattle.desk_state.specs.declared.desk.Desk.{Desk}
use Rattle.desk_soundness.specs.Sound.{sound_desk}
use Rattle.desk_soundness.specs.SoundLog.{log_most, sound_log}
use Rattle.desk_soundness.proofs.Wording.{sound-is, sound-taken}
use Rattle.desk_soundness.proofs.LogWording.{log_is, log-taken}
use Rattle.reader_cuts.specs.Reading.{bad_length, undecided}
use Rattle.reader_cuts.proofs.Laws.{good_length, length-good}
use Rattle.reader_cuts.proofs.Firsts.{undecided-cases}
use Rattle.reader_memory.specs.Memory.{reader_kept, reader_state, kept_in, stands_at, is_standing, is_reader}
use Rattle.reader_entries.specs.Judged.{sound_at}
use Rattle.reader_feed.specs.Feed.{sound_reader}
use Rattle.theorem_reader.specs.Sound.{Undecided, few, part, Stands, goes_on, ended, refused, SoundReader}

undecided-is : (cs : List ℕ) → undecided cs ≡ true → Undecided cs
undecided-is cs e = undecided-cases cs e few (λ h q l. let k = good_length (length_told cs) q in part k.0 k.1 l)

undecided-taken : (cs : List ℕ) → Undecided cs → undecided cs ≡ true
unfolding undecided
undecided-taken cs (few h) = rw (lt-ltb (length cs) head_length h)
undecided-taken cs (part lo hi l) = go (ltb (length cs) head_length) refl
  where
    go : (a : Bool) → ltb (length cs) head_length ≡ a → (ltb (length cs) head_length || (not (bad_length (length_told cs)) && ltb (length cs) (length_told cs))) ≡ true
    go true p = rw p
    go false p = rw (p, length-good (length_told cs) lo hi, lt-ltb (length cs) (length_told cs) l)

stands-is : (e : ℕ) → is_standing e ≡ true → Stands e
unfolding is_standing between
stands-is e h = go (or-either (leb e 1) (leb 18 e && leb e 20) h)
  where
    low : (b : Bool) → eqb e 0 ≡ b → e ≤ 1 → Stands e
    low true p l = goes_on (eqb-true e 0 p)
    low false p l = ended (let n = eqb-false e 0 p in omega (arith, n, l))

    go : (leb e 1 ≡ true) ⊎ ((leb 18 e && leb e 20) ≡ true) → Stands e
    go (inl p) = low (eqb e 0) refl (leb-true e 1 p)
    go (inr p) = let b = and_both (leb 18 e) (leb e 20) p in refused (leb-true 18 e b.0) (leb-true e 20 b.1)

stands-taken : (e : ℕ) → Stands e → is_standing e ≡ true
unfolding is_standing between
stands-taken e (goes_on p) = rw (le-leb e 1 (omega (arith, p)))
stands-taken e (ended p) = rw (le-leb e 1 (omega (arith, p)))
stands-taken e (refused a b) = simp (lt-leb e 1 (omega (arith, a)), le-leb 18 e a, le-leb e 20 b)

pub reader-so : (d : Desk) (used : ℕ) (k z : List ℕ) → (sound_reader d used k z ≡ true) ↔ SoundReader d used k z
unfolding sound_reader sound_at is_reader
reader-so d used k z = (is, taken)
  where
    is : sound_reader d used k z ≡ true → SoundReader d used k z
    is e =
        let a = and_both (sound_desk d && sound_log d log_most used) _ e in
        let b = and_both (sound_desk d) (sound_log d log_most used) a.0 in
        let c = and_both (eqb (length k) reader_kept && (eqb (length z) reader_state && is_standing (stands_at z))) (undecided (kept_in k z)) a.1 in
        let l = and_both (eqb (length k) reader_kept) _ c.0 in
        let m = and_both (eqb (length z) reader_state) (is_standing (stands_at z)) l.1 in
        record {
          desk = sound-is d b.0;
          log = log_is d log_most used b.1;
          kept = eqb-true (length k) reader_kept l.0;
          state = eqb-true (length z) reader_state m.0;
          stands = stands-is (stands_at z) m.1;
          waits = undecided-is (kept_in k z) c.1;
        }

    taken : SoundReader d used k z → sound_reader d used k z ≡ true
    taken s =
        simp (
          sound-taken d s.desk,
          log-taken d log_most used s.log,
          eq-eqb (length k) reader_kept s.kept,
          eq-eqb (length z) reader_state s.state,
          stands-taken (stands_at z) s.stands,
          undecided-taken (kept_in k z) s.waits,
        )
