-- Laws of `place_of`, for every table of symbols. A loop that has passed k symbols keeps `Searched table a b k`.
-- Assumes nothing.
use Rattle.std.specs.Prelude.{Option, Some, None}
use mathlib.Core.Path.{◌≡◌, refl, ap, ◌∙◌}
use mathlib.Core.Bool.{Bool, true, false, cond}
use mathlib.Core.List.{List, [], ◌∷◌}
use Prim.Native.Nat.{ℕ, zero, suc, ◌+◌, ◌*◌, ◌≤◌, ◌<◌}
use native.Mathlib.Nat.{add-zero}
use native.Mathlib.Omega.{arith}
use borrow.Author.Tests.{eqb-true}
use lib.Dec.{eqb}
use lib.ListN.{length, get_or, drop, length-drop}
use lib.Seq.{drop-cons}
use Rattle.text.proofs.Bools.{and_both}
use Rattle.formula_elements.specs.Elements.{same_symbol, next_place, place_of}

-- a place counted from k symbols before
abbrev pub beyond : ℕ → Option ℕ → Option ℕ
beyond k (Some n) = Some (k + n)
beyond k None = None

beyond-zero : (p : Option ℕ) → p ≡ beyond 0 p
beyond-zero (Some n) = let e : n ≡ 0 + n = omega arith in ap Some e
beyond-zero None = refl

beyond-after : (k : ℕ) (p : Option ℕ) → beyond k (next_place p) ≡ beyond (k + 1) p
beyond-after k (Some n) = let e : k + suc n ≡ k + 1 + n = omega arith in ap Some e
beyond-after k None = refl

-- a table of fewer than two bytes has no symbol
short : (table : List ℕ) (a b : ℕ) → length table ≤ 1 → place_of table a b ≡ None
unfolding place_of
short [] a b h = refl
short (x ∷ []) a b h = refl
short (x ∷ (y ∷ table)) a b h = absurd (omega arith)

pub record Searched (table : List ℕ) (a b k : ℕ) : Type 0 where
  pub within : 2 * k ≤ length table + 1
  pub rest : place_of table a b ≡ beyond k (place_of (drop (2 * k) table) a b)

module _ (table : List ℕ) (a b : ℕ) where
  pub start : Searched table a b 0
  start = record { within = omega arith; rest = beyond-zero (place_of table a b) }

  module _ {k : ℕ} (h : Searched table a b k) where
    at : 2 * k + 1 < length table → (t : Bool) → same_symbol (get_or table (2 * k) 0) (get_or table (2 * k + 1) 0) a b ≡ t
        → place_of table a b ≡ beyond k (cond t (Some 0) (next_place (place_of (drop (2 * (k + 1)) table) a b)))
    unfolding place_of
    at l t e =
        let e₁ : 2 * k + 1 ≡ suc (2 * k) = omega arith in
        let e₂ : 2 * (k + 1) ≡ suc (suc (2 * k)) = omega arith in
        let l₁ : 2 * k < length table = omega arith in
        let l₂ : suc (2 * k) < length table = omega arith in
        let e₃ = rw e₁ at e in
        let here : place_of (drop (2 * k) table) a b ≡ cond t (Some 0) (next_place (place_of (drop (2 * (k + 1)) table) a b)) =
        rw (e₂, drop-cons table (2 * k) 0 l₁, drop-cons table (suc (2 * k)) 0 l₂, e₃) in
        h.rest ∙ ap (beyond k) here

    pub found : 2 * k + 1 < length table → same_symbol (get_or table (2 * k) 0) (get_or table (2 * k + 1) 0) a b ≡ true → place_of table a b ≡ Some k
    found l e = at l true e ∙ ap Some (add-zero k)

    pub more : 2 * k + 1 < length table → same_symbol (get_or table (2 * k) 0) (get_or table (2 * k + 1) 0) a b ≡ false → Searched table a b (k + 1)
    more l e = record { within = omega arith; rest = at l false e ∙ beyond-after k (place_of (drop (2 * (k + 1)) table) a b) }

    pub end : length table ≤ 2 * k + 1 → place_of table a b ≡ None
    end l =
        let e : length (drop (2 * k) table) ≤ 1 = rw length-drop (omega arith) in
        h.rest ∙ ap (beyond k) (short (drop (2 * k) table) a b e)

-- what was found stands in the table
after-at : (p : Option ℕ) (k : ℕ) → next_place p ≡ Some k → (k ≡ 0 → ⊥) × ((j : ℕ) → k ≡ suc j → p ≡ Some j)
after-at (Some n) k e =
    let e₁ : suc n ≡ k = cc in
    ((λ z. omega arith), (λ j q. let e₂ : n ≡ j = omega arith in ap Some e₂))
after-at None k e = let z : ◌≡◌ {A = ℕ} 0 1 = cc in absurd (omega arith)

within_by : (t : Bool) (p : Option ℕ) (m k : ℕ) → ((j : ℕ) → p ≡ Some j → 2 * j + 1 < m) → cond t (Some 0) (next_place p) ≡ Some k → 2 * k + 1 < suc (suc m)
within_by true p m k ih e = let e₁ : 0 ≡ k = cc in omega arith
within_by false p m zero ih e = absurd ((after-at p zero e).0 refl)
within_by false p m (suc j) ih e = let h = ih j ((after-at p (suc j) e).1 j refl) in omega arith

pub place-within : (table : List ℕ) (a b k : ℕ) → place_of table a b ≡ Some k → 2 * k + 1 < length table
unfolding place_of
place-within [] a b k e = let z : ◌≡◌ {A = ℕ} 0 1 = cc in absurd (omega arith)
place-within (x ∷ []) a b k e = let z : ◌≡◌ {A = ℕ} 0 1 = cc in absurd (omega arith)
place-within (x ∷ (y ∷ table)) a b k e = within_by (same_symbol x y a b) (place_of table a b) (length table) k (place-within table a b) e

-- the symbol found is the one asked for
here-by : (x y a b : ℕ) (table : List ℕ) (p : Option ℕ) (t : Bool) → same_symbol x y a b ≡ t
    → ((j : ℕ) → p ≡ Some j → (get_or table (2 * j) 0 ≡ a) × (get_or table (2 * j + 1) 0 ≡ b))
    → (k : ℕ) → cond t (Some 0) (next_place p) ≡ Some k → (get_or (x ∷ (y ∷ table)) (2 * k) 0 ≡ a) × (get_or (x ∷ (y ∷ table)) (2 * k + 1) 0 ≡ b)
unfolding same_symbol
here-by x y a b table p true e ih zero q = let h = and_both (eqb x a) (eqb y b) e in (eqb-true _ _ h.0, eqb-true _ _ h.1)
here-by x y a b table p true e ih (suc k) q = let z : 0 ≡ suc k = cc in absurd (omega arith)
here-by x y a b table p false e ih zero q = absurd ((after-at p zero q).0 refl)
here-by x y a b table p false e ih (suc j) q =
    let h = ih j ((after-at p (suc j) q).1 j refl) in
    let e₁ : 2 * suc j ≡ suc (suc (2 * j)) = omega arith in
    let e₂ : 2 * suc j + 1 ≡ suc (suc (2 * j + 1)) = omega arith in
    (rw e₁ h.0, rw e₂ h.1)

pub place_is : (table : List ℕ) (a b k : ℕ) → place_of table a b ≡ Some k → (get_or table (2 * k) 0 ≡ a) × (get_or table (2 * k + 1) 0 ≡ b)
unfolding place_of
place_is [] a b k e = let z : ◌≡◌ {A = ℕ} 0 1 = cc in absurd (omega arith)
place_is (x ∷ []) a b k e = let z : ◌≡◌ {A = ℕ} 0 1 = cc in absurd (omega arith)
place_is (x ∷ (y ∷ table)) a b k e = here-by x y a b table (place_of table a b) (same_symbol x y a b) refl (place_is table a b) k e
