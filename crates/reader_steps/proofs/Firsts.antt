-- Laws for the code that takes the first record: each return is a case of `first_of`.
-- Assumes nothing.
use mathlib.Core.Path.{◌≡◌, refl, sym, ap, ◌∙◌}
use mathlib.Core.Bool.{true, false}
use mathlib.Core.List.{List}
use Prim.Native.Nat.{ℕ, ◌+◌, ◌≤◌, ◌<◌}
use native.Mathlib.Omega.{arith}
use borrow.Author.Tests.{eq-eqb, ne_eqb}
use lib.Dec.{eqb}
use lib.ListN.{length, take}
use lib.Seq.{length-take-le}
use Rattle.desk_log.specs.Record.{head_length, length_told}
use Rattle.desk_state.specs.declared.desk.Desk.{Desk}
use Rattle.desk_memory.specs.Memory.{desk_of, used_of}
use Rattle.reader_cuts.specs.Reading.{bad_length}
use Rattle.reader_cuts.specs.First.{First, stays, first_of}
use Rattle.reader_cuts.proofs.Laws.{good_length}
use Rattle.reader_cuts.proofs.Firsts.{first-few, first-bad, first_part, first-refused, first_taken}
use Rattle.reader_entries.specs.Judged.{refusal_of, store_of}
use Rattle.reader_entries.specs.Lent.{RecordLent}
use Rattle.reader_entries.proofs.Judged.{taken-shaped}
use Rattle.reader_entries.proofs.Keeps.{sound-desk, sound-takes}
use Rattle.reader_steps.specs.Steps.{sound_here, first_left, FirstLent}

first-path : (b b' : ℕ) (d d' : Desk) (u u' : ℕ) → b ≡ b' → d ≡ d' → u ≡ u'
    → ◌≡◌ {A = First Desk} (record { bytes = b; answer = 0; sheets = d; at = u }) (record { bytes = b'; answer = 0; sheets = d'; at = u' })
first-path b b' d d' u u' p q r = λ i. record { bytes = p i; answer = 0; sheets = q i; at = r i }

module _ (t n bs : List ℕ) where
  abbrev first : First Desk
  first = first_of refusal_of store_of (desk_of t n) (used_of n) bs

  nothing : (a : ℕ) → first_of refusal_of store_of (desk_of t n) (used_of n) bs ≡ stays a (desk_of t n) (used_of n) → FirstLent t n bs 0 a t n
  nothing a e = record { first = λ s. sym e; unchanged = λ z. (refl, refl); within = omega arith; same_length = (refl, refl) }

  pub step-few : length bs < head_length → FirstLent t n bs 0 0 t n
  step-few h = nothing 0 (first-few refusal_of store_of (desk_of t n) (used_of n) bs h)

  module _ (six : head_length ≤ length bs) (m : ℕ) (told : m ≡ length_told bs) where
    pub step-bad : bad_length m ≡ true → FirstLent t n bs 0 18 t n
    step-bad b = nothing 18 (first-bad refusal_of store_of (desk_of t n) (used_of n) bs six (rw told at b))

    module _ (good : bad_length m ≡ false) where
      pub step_part : length bs < m → FirstLent t n bs 0 0 t n
      step_part l = nothing 0 (first_part refusal_of store_of (desk_of t n) (used_of n) bs six (rw told at good) (omega (arith, told)))

      module _ (whole : m ≤ length bs) (a : ℕ) (t' n' : List ℕ) (p : RecordLent t n (take m bs) a t' n') where
        -- the answer, of the record as it lies in the bytes
        answer-is : sound_here t n ≡ true → a ≡ refusal_of (used_of n) (take (length_told bs) bs) (desk_of t n)
        answer-is s = p.answer (sound-desk t n s).0 ∙ ap (λ (k : ℕ). refusal_of (used_of n) (take k bs) (desk_of t n)) told

        pub step-refused : (a ≡ 0 → ⊥) → FirstLent t n bs 0 a t' n'
        step-refused ne =
            let same = p.refused ne in
            record {
              first = λ s.
                  let e : eqb (refusal_of (used_of n) (take (length_told bs) bs) (desk_of t n)) 0 ≡ false = rw (answer-is s) at (ne_eqb a 0 ne) in
                  ap (λ (x : List ℕ). first_left 0 a x n') same.0 ∙ ap (λ (x : List ℕ). first_left 0 a t x) same.1
                  ∙ ap (λ (k : ℕ). stays k (desk_of t n) (used_of n)) (answer-is s)
                  ∙ sym (first-refused refusal_of store_of (desk_of t n) (used_of n) bs six (rw told at good) (omega (arith, told)) e);
              unchanged = λ z. same;
              within = omega arith;
              same_length = p.same_length;
            }

        pub step-taken : a ≡ 0 → FirstLent t n bs m 0 t' n'
        step-taken z =
            let lo = good_length m good in
            record {
              first = λ s.
                  let ok : refusal_of (used_of n) (take m bs) (desk_of t n) ≡ 0 = sym (p.answer (sound-desk t n s).0) ∙ z in
                  let e : eqb (refusal_of (used_of n) (take (length_told bs) bs) (desk_of t n)) 0 ≡ true = rw (answer-is s) at (eq-eqb a 0 z) in
                  let kept = p.stored z (sound-takes t n (take m bs) s (taken-shaped (used_of n) (take m bs) (desk_of t n) ok)) in
                  let len : length (take m bs) ≡ m = length-take-le m bs whole in
                  first-path m (length_told bs) (desk_of t' n') (store_of (take (length_told bs) bs) (desk_of t n)) (used_of n') (used_of n + length_told bs) told
                  (kept.0 ∙ ap (λ (k : ℕ). store_of (take k bs) (desk_of t n)) told) (kept.1 ∙ ap (λ (k : ℕ). used_of n + k) (len ∙ told))
                  ∙ sym (first_taken refusal_of store_of (desk_of t n) (used_of n) bs six (rw told at good) (omega (arith, told)) e);
              unchanged = λ q. absurd (omega (arith, q, lo.0));
              within = whole;
              same_length = p.same_length;
            }
