-- A loop over the pairs of an input: what the pairs passed leave, the rest leads to the same end.
-- Assumes nothing.
use mathlib.Core.Path.{◌≡◌, refl, sym, ap, ◌∙◌}
use mathlib.Core.List.{List, [], ◌∷◌, ◌++◌}
use Prim.Native.Nat.{ℕ, zero, suc, ◌+◌, ◌*◌, ◌≤◌, ◌<◌}
use native.Mathlib.Omega.{arith}
use native.Mathlib.Numerals.{towards_suc}
use lib.ListN.{length, get_or, drop, length-drop}
use lib.Seq.{drop-cons}
use Rattle.rows.specs.Rows.{no_rows}
use Rattle.rows_sheet.specs.Sheet.{rows_of}
use Rattle.desk_keys.specs.Key.{After, key_of}
use Rattle.theorem_work.specs.Calls.{Call, key, final}
use Rattle.theorem_sequences.specs.Calls.{State, left_by_key, step}
use Rattle.desk_session.specs.Play.{bench_of, pairs_of, played}

-- after i pairs the state s stands, from the state first
pub record Ran (input : List ℕ) (first s : State) (i : ℕ) : Type 0 where
  pub leads : played s (drop (2 * i) input) ≡ played first input

pub ran-none : (input : List ℕ) (s : State) → Ran input s s 0
ran-none input s = record { leads = refl }

-- fewer than two bytes have no pair
few : (r : List ℕ) → length r ≤ 1 → pairs_of r ≡ []
few [] h = refl
few (b ∷ []) h = refl
few (b ∷ k ∷ r) h = absurd (omega arith)

pub ran-all : {input : List ℕ} {first s : State} (i : ℕ) → Ran input first s i → length input ≤ 2 * i + 1 → s ≡ played first input
ran-all {input} {first} {s} i r h =
    let none : pairs_of (drop (2 * i) input) ≡ [] = few (drop (2 * i) input) (simp length-drop (omega arith)) in
    sym (ap (final (step rows_of no_rows) s) none) ∙ r.leads

-- the pair at a place, and the others
pair-at : (input : List ℕ) (at : ℕ) → at + 1 < length input
    → pairs_of (drop at input) ≡ key (bench_of (get_or input at 0)) (get_or input (at + 1) 0) ∷ pairs_of (drop (at + 2) input)
pair-at input at h = simp towards_suc
    (ap pairs_of (drop-cons input at 0 (omega arith) ∙ ap (λ (r : List ℕ). get_or input at 0 ∷ r) (drop-cons input (suc at) 0 (omega arith))))

-- one pair played by a key call
pub ran-next : {input : List ℕ} {first s : State} {i bench : ℕ} (a : After) → Ran input first s i → 2 * i + 1 < length input
    → bench ≡ bench_of (get_or input (2 * i) 0)
    → a ≡ key_of s.desk s.used s.log bench (get_or input (2 * i + 1) 0)
    → Ran input first (left_by_key a) (i + 1)
ran-next {input} {first} {s} {i} {bench} a ran h b e =
    let byte = get_or input (2 * i + 1) 0 in
    let rest : List Call = pairs_of (drop (2 * i + 2) input) in
    let q = e ∙ ap (λ (n : ℕ). key_of s.desk s.used s.log n byte) b in
    let on : 2 * (i + 1) ≡ 2 * i + 2 = omega arith in
    record {
      leads =
          ap (λ (n : ℕ). played (left_by_key a) (drop n input)) on
          ∙ ap (λ (a : After). final (step rows_of no_rows) (left_by_key a) rest) q
          ∙ sym (ap (final (step rows_of no_rows) s) (pair-at input (2 * i) h))
          ∙ ran.leads;
    }

-- an input that comes in parts is played part by part, where a part that is not the last has only whole pairs
pub played-in-parts : (k : ℕ) (s : State) (a b : List ℕ) → length a ≡ 2 * k → played (played s a) b ≡ played s (a ++ b)
played-in-parts zero s [] b h = refl
played-in-parts zero s (x ∷ a) b h = absurd (omega arith)
played-in-parts (suc k) s [] b h = absurd (omega arith)
played-in-parts (suc k) s (x ∷ []) b h = absurd (omega arith)
played-in-parts (suc k) s (x ∷ y ∷ a) b h = played-in-parts k (step rows_of no_rows (key (bench_of x) y) s).1 a b (omega arith)
