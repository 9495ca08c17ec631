-- Runs that go on: the bytes passed are of the kind, so a loop may begin after them.
-- Assumes nothing.
use mathlib.Core.Path.{◌≡◌, refl, sym, ap, ◌∙◌}
use mathlib.Core.Bool.{Bool, true}
use mathlib.Core.List.{List, [], ◌∷◌, ◌++◌, append_assoc}
use Prim.Native.Nat.{ℕ, ◌+◌, ◌≤◌}
use native.Mathlib.Nat.{zero-add}
use native.Mathlib.Omega.{arith}
use lib.ListN.{length, take, drop, length-append, length-drop, take-append-drop}
use lib.Seq.{take_at, length-take-le}
use Rattle.text.specs.Run.{run_of, all}
use Rattle.text.proofs.Bools.{and_both}
use Rattle.text.proofs.Runs.{Passed, Stops, all_append}

-- a run goes on over a text of the kind
run-over : (p : ℕ → Bool) (a r : List ℕ) → all p a ≡ true → run_of p (a ++ r) ≡ length a + run_of p r
unfolding run_of all
run-over p [] r h = sym (zero-add (run_of p r))
run-over p (b ∷ bs) r h =
    let k = and_both (p b) (all p bs) h in
    let rest = run-over p bs r k.1 in
    rw k.0 (omega (arith, rest))

pub passed_first : (p : ℕ → Bool) (s : List ℕ) (i : ℕ) → i ≤ length s → all p (take i s) ≡ true → Passed p s i
passed_first p s i h a =
    let l = length-take-le i s h in
    let e = ap (run_of p) (sym (take-append-drop i s)) ∙ run-over p (take i s) (drop i s) a in
    record { within = h; run = omega (arith, e, l) }

-- where the first i bytes are of the kind, the run of the rest ends the whole one
pub stops-further : (p : ℕ → Bool) (s : List ℕ) (i : ℕ) {rest : List ℕ} {n : ℕ} → i ≤ length s → all p (take i s) ≡ true → rest ≡ drop i s → Stops p rest n → Stops p s (i + n)
stops-further p s i {rest} {n} h a e stops =
    let first = passed_first p s i h a in
    let here = stops.0 ∙ ap (run_of p) e in
    let left = ap length e ∙ length-drop i s in
    (omega (arith, first.run), omega (arith, stops.1))

-- a loop over the parts of a text: the bytes before the rest are n, all of the kind
pub record Skipped (p : ℕ → Bool) (s : List ℕ) (n : ℕ) (rest : List ℕ) : Type 0 where
  pub front : List ℕ
  pub whole : s ≡ front ++ rest
  pub long : length front ≡ n
  pub of_kind : all p front ≡ true

pub skipped_none : (p : ℕ → Bool) (s rest : List ℕ) → rest ≡ s → Skipped p s 0 rest
unfolding all
skipped_none p s rest e = record { front = []; whole = sym e; long = refl; of_kind = refl }

pub skipped_more : {p : ℕ → Bool} {s : List ℕ} {n : ℕ} {rest : List ℕ} (part next : List ℕ) (k : ℕ) → Skipped p s n rest → rest ≡ part ++ next → length part ≡ k → all p part ≡ true → Skipped p s (n + k) next
skipped_more {p} part next k h e l a =
    record {
      front = h.front ++ part;
      whole = h.whole ∙ ap (λ (r : List ℕ). h.front ++ r) e ∙ sym (append_assoc h.front part next);
      long = omega (arith, length-append h.front part, h.long, l);
      of_kind = all_append p h.front part h.of_kind a;
    }

pub skipped_here : {p : ℕ → Bool} {s : List ℕ} {n : ℕ} {rest : List ℕ} → Skipped p s n rest → (all p (take n s) ≡ true) × (n ≤ length s)
skipped_here {p} {s} {n} {rest} h =
    let first : take n s ≡ h.front = ap (take n) h.whole ∙ take_at h.front rest n h.long in
    (ap (all p) first ∙ h.of_kind, omega (arith, ap length h.whole, length-append h.front rest, h.long))
