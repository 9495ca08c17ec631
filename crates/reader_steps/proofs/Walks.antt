-- Laws for the loop over the records of a part: what was read and the rest of the part make the whole.
-- Assumes nothing.
use mathlib.Core.Path.{◌≡◌, refl, sym, ap, subst, ◌∙◌}
use mathlib.Core.Bool.{Bool, true, false}
use mathlib.Core.List.{List, [], append-nil}
use Prim.Native.Nat.{ℕ, ◌+◌, ◌-◌, ◌≤◌}
use native.Mathlib.Omega.{arith}
use borrow.Author.Tests.{eqb-true, eqb-false, ne_eqb}
use lib.Dec.{eqb}
use lib.ListN.{length, take, drop, length-drop}
use lib.Seq.{length-take-le, drop-drop}
use Rattle.text.proofs.Parts.{rest_part}
use Rattle.desk_state.specs.declared.desk.Desk.{Desk}
use Rattle.desk_memory.specs.Memory.{desk_of, used_of}
use Rattle.desk_memory.proofs.Desks.{still-desk}
use Rattle.reader_cuts.specs.Reading.{short, ended}
use Rattle.reader_cuts.specs.First.{First}
use Rattle.reader_cuts.proofs.Firsts.{Goes, first_goes, read-undecided}
use Rattle.reader_entries.specs.Judged.{refusal_of, store_of, sound_at, read_on}
use Rattle.reader_entries.proofs.Keeps.{sound-desk, desk-sound, desk-whole, keeps}
use Rattle.reader_steps.specs.Steps.{sound_here, first_left, FirstLent, stopped_as, PartLent}

-- the reading goes as the first record says
pub left-goes : (t n bs : List ℕ) (b a : ℕ) (t' n' : List ℕ) → FirstLent t n bs b a t' n' → sound_here t n ≡ true
    → Goes refusal_of store_of (desk_of t n) (used_of n) bs (first_left b a t' n')
left-goes t n bs b a t' n' h s =
    subst (λ (f : First Desk). Goes refusal_of store_of (desk_of t n) (used_of n) bs f) (sym (h.first s)) (first_goes refusal_of store_of (desk_of t n) (used_of n) bs)

-- a record that is taken keeps the desk sound
pub first-sound : (t n bs : List ℕ) (b a : ℕ) (t' n' : List ℕ) → FirstLent t n bs b a t' n' → (b ≡ 0 → ⊥) → sound_here t n ≡ true → sound_here t' n' ≡ true
first-sound t n bs b a t' n' h ne s =
    let d : Desk = desk_of t n in
    let u : ℕ = used_of n in
    let r : List ℕ = take b bs in
    let k = (left-goes t n bs b a t' n' h s).took ne in
    let len : length r ≡ b = length-take-le b bs h.within in
    let here = sound-desk t n s in
    let kept = keeps d u r (desk-whole t n) here.1 (omega (arith, len, k.0)) k.2 in
    let used : u + length r ≡ used_of n' = ap (λ (x : ℕ). u + x) len ∙ sym k.4 in
    let sound : sound_at (desk_of t' n') (used_of n') ≡ true
    = ap (λ (x : Desk). sound_at x (used_of n')) k.3 ∙ ap (λ (x : ℕ). sound_at (store_of r d) x) (sym used) ∙ kept in
    desk-sound t' n' (still-desk t n t' n' h.same_length.0 h.same_length.1 ∙ here.0) sound

-- the first i bytes of the part are read, from t₀ and n₀ to t and n
pub record Walked (t₀ n₀ part t n : List ℕ) (i : ℕ) : Type 0 where
  pub within : i ≤ length part
  pub same_length : (length t ≡ length t₀) × (length n ≡ length n₀)
  pub sound : sound_here t₀ n₀ ≡ true → sound_here t n ≡ true
  pub walked : sound_here t₀ n₀ ≡ true → (last : Bool) → read_on last (desk_of t₀ n₀) (used_of n₀) part ≡ read_on last (desk_of t n) (used_of n) (drop i part)

module _ (t₀ n₀ part t n : List ℕ) (i : ℕ) (w : Walked t₀ n₀ part t n i) (b a : ℕ) (t' n' : List ℕ)
    (lent : FirstLent t n (take (length part - i) (drop i part)) b a t' n') where
  -- the bytes as they are lent are the rest of the part
  h : FirstLent t n (drop i part) b a t' n'
  h = subst (λ (x : List ℕ). FirstLent t n x b a t' n') (rest_part part i) lent

  lengths : (length t' ≡ length t₀) × (length n' ≡ length n₀)
  lengths = (h.same_length.0 ∙ w.same_length.0, h.same_length.1 ∙ w.same_length.1)

  goes : sound_here t₀ n₀ ≡ true → Goes refusal_of store_of (desk_of t n) (used_of n) (drop i part) (first_left b a t' n')
  goes s = left-goes t n (drop i part) b a t' n' h (w.sound s)

  pub walk-stops : b ≡ 0 → PartLent t₀ n₀ part i a t' n'
  walk-stops z = record {
    read = λ s last. w.walked s last ∙ stop s last (eqb a 0) refl;
    waits = λ s e. (goes s).waits z e;
    within = w.within;
    same_length = lengths;
  }
    where
      stop : (s : sound_here t₀ n₀ ≡ true) (last : Bool) (x : Bool) → eqb a 0 ≡ x
          → read_on last (desk_of t n) (used_of n) (drop i part) ≡ stopped_as last i a (desk_of t' n') (used_of n') part
      stop s last true e =
          let g = goes s in
          let same = g.none z in
          rw e
          (read-undecided refusal_of store_of last (desk_of t n) (used_of n) (drop i part) (g.waits z (eqb-true a 0 e))
          ∙ ap (λ (d : Desk). short last d (used_of n) (drop i part)) (sym same.0) ∙ ap (λ (u : ℕ). short last (desk_of t' n') u (drop i part)) (sym same.1))
      stop s last false e =
          let g = goes s in
          let same = g.none z in
          rw e
          (ap (read_on last (desk_of t n) (used_of n)) (sym (append-nil (drop i part))) ∙ g.stops last [] (eqb-false a 0 e)
          ∙ ap (λ (d : Desk). ended a d (used_of n)) (sym same.0) ∙ ap (λ (u : ℕ). ended a (desk_of t' n') u) (sym same.1))

  -- a record that is refused
  pub walk-refused : b ≡ 0 → (a ≡ 0 → ⊥) → PartLent t₀ n₀ part 0 a t' n'
  walk-refused z ne = record {
    read = λ s last.
        let e : stopped_as last i a (desk_of t' n') (used_of n') part ≡ stopped_as last 0 a (desk_of t' n') (used_of n') part = rw (ne_eqb a 0 ne) in
        (walk-stops z).read s last ∙ e;
    waits = λ s e. absurd (ne e);
    within = omega arith;
    same_length = lengths;
  }

  pub walk-goes : (b ≡ 0 → ⊥) → Walked t₀ n₀ part t' n' (i + b)
  walk-goes ne = record {
    within = omega (arith, w.within, h.within, length-drop i part);
    same_length = lengths;
    sound = λ s. first-sound t n (drop i part) b a t' n' h ne (w.sound s);
    walked = λ s last.
        w.walked s last ∙ ap (read_on last (desk_of t n) (used_of n)) (sym (append-nil (drop i part))) ∙ (goes s).goes last [] ne
        ∙ ap (read_on last (desk_of t' n') (used_of n')) (append-nil (drop b (drop i part)) ∙ drop-drop b i part);
  }
