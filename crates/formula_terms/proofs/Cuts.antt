-- The first term of a text, as it is written, and those that follow it.
-- Assumes nothing.
use Prim.Native.Nat.{ℕ, suc, ◌+◌, ◌≤◌, ◌<◌}
use mathlib.Core.Path.{◌≡◌, refl, ap}
use mathlib.Core.Bool.{Bool, true, false, cond, not}
use mathlib.Core.List.{List, [], ◌∷◌}
use native.Mathlib.Omega.{arith}
use native.Mathlib.Numerals.{add-one}
use lib.Dec.{eqb}
use lib.ListN.{length, take, drop}
use lib.Seq.{take_all}
use Rattle.text.specs.Run.{run_of, other}
use Rattle.text.proofs.Runs.{run_short}
use Rattle.formula_terms.specs.Terms.{attach, cut}

-- how long the first term of a text is
abbrev pub width : List ℕ → ℕ
width s = run_of (other 32) s

-- a text with no space is one term
last-by : (b : ℕ) (bs : List ℕ) (t : Bool) → eqb b 32 ≡ t → (width bs ≡ length bs → cut bs ≡ bs ∷ [])
    → cond (not t) (suc (width bs)) 0 ≡ suc (length bs) → cond t ([] ∷ cut bs) (attach b (cut bs)) ≡ (b ∷ bs) ∷ []
last-by b bs true e ih h = absurd (omega arith)
last-by b bs false e ih h = let k : width bs ≡ length bs = omega arith in ap (attach b) (ih k)

pub cut-last : (s : List ℕ) → width s ≡ length s → cut s ≡ s ∷ []
unfolding cut run_of other
cut-last [] h = refl
cut-last (b ∷ bs) h = last-by b bs (eqb b 32) refl (cut-last bs) h

-- a text with a space is the term before the first one and the terms after it
more_by : (b : ℕ) (bs : List ℕ) (t : Bool) → eqb b 32 ≡ t → (width bs < length bs → cut bs ≡ take (width bs) bs ∷ cut (drop (suc (width bs)) bs))
    → cond (not t) (suc (width bs)) 0 < suc (length bs)
    → cond t ([] ∷ cut bs) (attach b (cut bs)) ≡ take (cond (not t) (suc (width bs)) 0) (b ∷ bs) ∷ cut (drop (suc (cond (not t) (suc (width bs)) 0)) (b ∷ bs))
more_by b bs true e ih h = refl
more_by b bs false e ih h = let k : width bs < length bs = omega arith in ap (attach b) (ih k)

cut-more : (s : List ℕ) → width s < length s → cut s ≡ take (width s) s ∷ cut (drop (suc (width s)) s)
unfolding cut run_of other
cut-more [] h = absurd (omega arith)
cut-more (b ∷ bs) h = more_by b bs (eqb b 32) refl (cut-more bs) h

-- the first n bytes of a text have no space, and a space or the end follows them
module _ (s : List ℕ) (n : ℕ) (e : n ≡ width s) where
  pub first-word : n < length s → cut s ≡ take n s ∷ cut (drop (n + 1) s)
  first-word h =
      let k : width s < length s = omega arith in
      rw (e, add-one) (cut-more s k)

  pub only-word : length s ≤ n → cut s ≡ take n s ∷ []
  only-word h =
      let k : width s ≡ length s = omega (arith, run_short (other 32) s) in
      rw (take_all n s h) (cut-last s k)
