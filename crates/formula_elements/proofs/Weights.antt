-- The code's tables of weights: the symbols in one, the weights in another. That they are the table of weights is a test that antt computes.
-- Assumes nothing.
use Rattle.std.specs.Prelude.{Option, Some, None}
use mathlib.Core.Path.{◌≡◌, refl, sym, ap, subst, ◌∙◌}
use mathlib.Core.Bool.{Bool, true, false, cond, ◌&&◌}
use mathlib.Core.List.{List, [], ◌∷◌}
use Prim.Native.Nat.{ℕ, ◌≤◌}
use borrow.Author.Tests.{leb-true, eqb-true}
use lib.Dec.{leb, eqb}
use lib.ListN.{get_or}
use Rattle.text.proofs.Bools.{and_both}
use Rattle.formula_elements.specs.Elements.{same_symbol, next_place, place_of, symbols, element_of, is_element, WeightRow, weights, weight_in, weight_of, heaviest}

-- the symbols of a table of weights, two bytes each
unfoldable pub symbols_in : List WeightRow → List ℕ
symbols_in [] = []
symbols_in (w ∷ ws) = get_or w.symbol 0 0 ∷ (get_or w.symbol 1 0 ∷ symbols_in ws)

-- its weights
unfoldable pub values_in : List WeightRow → List ℕ
values_in [] = []
values_in (w ∷ ws) = w.thousandths ∷ values_in ws

-- the weight at a place
abbrev pub weight_at : List ℕ → Option ℕ → Option ℕ
weight_at vs (Some k) = Some (get_or vs k 0)
weight_at vs None = None

weight-after : (v : ℕ) (vs : List ℕ) (p : Option ℕ) → weight_at vs p ≡ weight_at (v ∷ vs) (next_place p)
weight-after v vs (Some k) = refl
weight-after v vs None = refl

found-by : (v : ℕ) (vs : List ℕ) (p : Option ℕ) (u : Option ℕ) (t : Bool) → u ≡ weight_at vs p → cond t (Some v) u ≡ weight_at (v ∷ vs) (cond t (Some 0) (next_place p))
found-by v vs p u true e = refl
found-by v vs p u false e = e ∙ weight-after v vs p

-- the weight of a symbol stands where its symbol does
pub weight-place : (ws : List WeightRow) (a b : ℕ) → weight_in ws a b ≡ weight_at (values_in ws) (place_of (symbols_in ws) a b)
unfolding weight_in symbols_in values_in place_of
weight-place [] a b = refl
weight-place (w ∷ ws) a b =
    found-by w.thousandths (values_in ws) (place_of (symbols_in ws) a b) (weight_in ws a b)
    (same_symbol (get_or w.symbol 0 0) (get_or w.symbol 1 0) a b) (weight-place ws a b)

-- no weight is above the heaviest
abbrev pub Light : Option ℕ → Type 0
Light (Some w) = w ≤ heaviest
Light None = Unit {0}

all_light : List WeightRow → Bool
all_light [] = true
all_light (w ∷ ws) = leb w.thousandths heaviest && all_light ws

light-by : (v : ℕ) (u : Option ℕ) (t : Bool) → v ≤ heaviest → Light u → Light (cond t (Some v) u)
light-by v u true h l = h
light-by v u false h l = l

light : (ws : List WeightRow) (a b : ℕ) → all_light ws ≡ true → Light (weight_in ws a b)
unfolding weight_in all_light
light [] a b e = tt
light (w ∷ ws) a b e =
    let h = and_both (leb w.thousandths heaviest) (all_light ws) e in
    light-by w.thousandths (weight_in ws a b) (same_symbol (get_or w.symbol 0 0) (get_or w.symbol 1 0) a b) (leb-true _ _ h.0) (light ws a b h.1)

pub weight-light : (a b : ℕ) → Light (weight_of a b)
unfolding weight_of weights all_light
weight-light a b = light weights a b refl

-- a symbol with a weight is recognised
Known : ℕ → ℕ → Option ℕ → Type 0
Known a b (Some w) = is_element a b ≡ true
Known a b None = Unit {0}

all_known : List WeightRow → Bool
all_known [] = true
all_known (w ∷ ws) = is_element (get_or w.symbol 0 0) (get_or w.symbol 1 0) && all_known ws

same_known : (x y a b : ℕ) → same_symbol x y a b ≡ true → is_element x y ≡ true → is_element a b ≡ true
unfolding same_symbol
same_known x y a b e h =
    let s = and_both (eqb x a) (eqb y b) e in
    let ex = eqb-true x a s.0 in
    let ey = eqb-true y b s.1 in
    ap (λ (u : ℕ). is_element u b) (sym ex) ∙ ap (is_element x) (sym ey) ∙ h

known_by : (x y a b v : ℕ) (u : Option ℕ) (t : Bool) → same_symbol x y a b ≡ t → is_element x y ≡ true → Known a b u → Known a b (cond t (Some v) u)
unfolding Known
known_by x y a b v u true e h l = same_known x y a b e h
known_by x y a b v u false e h l = l

known : (ws : List WeightRow) (a b : ℕ) → all_known ws ≡ true → Known a b (weight_in ws a b)
unfolding weight_in all_known Known
known [] a b e = tt
known (w ∷ ws) a b e =
    let x = get_or w.symbol 0 0 in
    let y = get_or w.symbol 1 0 in
    let h = and_both (is_element x y) (all_known ws) e in
    known_by x y a b w.thousandths (weight_in ws a b) (same_symbol x y a b) refl h.0 (known ws a b h.1)

weights-known : all_known weights ≡ true
unfolding all_known weights is_element element_of place_of same_symbol symbols
weights-known = refl

pub weight-known : (a b w : ℕ) → weight_of a b ≡ Some w → is_element a b ≡ true
unfolding weight_of Known
weight-known a b w e = subst (Known a b) e (known weights a b weights-known)
