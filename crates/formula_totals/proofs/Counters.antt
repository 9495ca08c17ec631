-- What adding a term, or so many times other counters, does to the counters.
-- Assumes nothing.
use Rattle.std.specs.Prelude.{Some, None, Option}
use Prim.Native.Nat.{ℕ, zero, suc, ◌+◌, ◌*◌, ◌≤◌, ◌<◌}
use mathlib.Core.Path.{◌≡◌, refl, sym, ap, subst, ◌∙◌}
use mathlib.Core.Bool.{Bool, true, false, cond}
use mathlib.Core.List.{List}
use native.Mathlib.Omega.{arith}
use native.Mathlib.Nat.{add-zero, mul-le-mul, mul-zero}
use borrow.Author.Tests.{eqb-true, eqb-false, ltb-true, ltb-false}
use lib.Dec.{eqb, ltb}
use lib.ListN.{length, get_or, set, length-set, replicate, get_or-eq_default}
use lib.Seq.{get_or-set_same, get_or-set_other}
use Rattle.formula_terms.specs.Term.{most_count}
use Rattle.formula_terms.specs.declared.term.Term.{Term}
use Rattle.formula_elements.specs.Elements.{element_of, is_element}
use Rattle.formula_sum.specs.Recognised.{is_recognised}
use Rattle.formula_sum.specs.Sum.{SmallCount}
use Rattle.formula_moiety.specs.Amounts.{amount}
use Rattle.formula_moiety.specs.Grammar.{most_times}
use Rattle.formula_totals.specs.Counters.{limit, Added}

-- counters of zero
pub zero-at : (n k : ℕ) → get_or (replicate {A = ℕ} n 0) k 0 ≡ 0
zero-at zero k = refl
zero-at (suc n) zero = refl
zero-at (suc n) (suc k) = zero-at n k

module _ (x : Option Term) (t : Term) (e : x ≡ Some t) where
  pub not-element : element_of t.symbol.first t.symbol.second ≡ None → is_recognised x ≡ false
  unfolding is_element
  not-element h = rw (e, h)

  pub is-element : (k : ℕ) → element_of t.symbol.first t.symbol.second ≡ Some k → is_recognised x ≡ true
  unfolding is_element
  is-element k h = rw (e, h)

  pub few : SmallCount x → t.count ≤ most_count
  few h = subst SmallCount e h

  pub term-added : (before : List ℕ) (k : ℕ) → element_of t.symbol.first t.symbol.second ≡ Some k → k < length before → Added before (set before k (get_or before k 0 + t.count)) (λ (j : ℕ). amount j x)
  term-added before k h l j = rw (e, h) (go (eqb k j) refl)
    where
      go : (y : Bool) → eqb k j ≡ y → get_or (set before k (get_or before k 0 + t.count)) j 0 ≡ get_or before j 0 + cond y t.count 0
      go true q = let z : k ≡ j = eqb-true k j q in subst (λ (i : ℕ). get_or (set before k (get_or before k 0 + t.count)) i 0 ≡ get_or before i 0 + t.count) z (get_or-set_same before k (get_or before k 0 + t.count) 0 l)
      go false q = get_or-set_other before k j (get_or before k 0 + t.count) 0 (λ z. eqb-false k j q (sym z)) ∙ sym (add-zero (get_or before j 0))

-- the first i counters have grown
pub record Half (from : List ℕ) (n : ℕ) (before now : List ℕ) (i : ℕ) : Type 0 where
  pub long : length now ≡ length before
  pub grown : (k : ℕ) → k < i → get_or now k 0 ≡ get_or before k 0 + n * get_or from k 0
  pub same : (k : ℕ) → i ≤ k → get_or now k 0 ≡ get_or before k 0

module _ (from : List ℕ) (n : ℕ) (before : List ℕ) where
  pub half-start : Half from n before before 0
  half-start = record { long = refl; grown = λ k h. absurd (omega arith); same = λ k h. refl }

  pub half-more : {now : List ℕ} {i : ℕ} → Half from n before now i → i < length before → Half from n before (set now i (get_or now i 0 + n * get_or from i 0)) (i + 1)
  half-more {now} {i} h l =
      record {
        long = length-set now i (get_or now i 0 + n * get_or from i 0) ∙ h.long;
        grown = λ k q. go k q (eqb k i) refl;
        same = λ k q. let z : k ≡ i → ⊥ = λ e. omega arith in let u : i ≤ k = omega arith in get_or-set_other now i k _ 0 z ∙ h.same k u;
      }
    where
      go : (k : ℕ) → k < i + 1 → (t : Bool) → eqb k i ≡ t → get_or (set now i (get_or now i 0 + n * get_or from i 0)) k 0 ≡ get_or before k 0 + n * get_or from k 0
      go k q true e =
          let z : k ≡ i = eqb-true k i e in
          let u : i < length now = omega (arith, h.long) in
          let v : i ≤ i = omega arith in
          subst (λ (j : ℕ). get_or (set now i (get_or now i 0 + n * get_or from i 0)) j 0 ≡ get_or before j 0 + n * get_or from j 0) (sym z)
          (get_or-set_same now i (get_or now i 0 + n * get_or from i 0) 0 u ∙ ap (λ (x : ℕ). x + n * get_or from i 0) (h.same i v))
      go k q false e =
          let z : k ≡ i → ⊥ = eqb-false k i e in
          let u : k < i = omega arith in
          get_or-set_other now i k _ 0 z ∙ h.grown k u

  pub half-end : {now : List ℕ} {i : ℕ} → Half from n before now i → length before ≤ i → length from ≤ i → Added before now (λ (k : ℕ). n * get_or from k 0)
  half-end {now} {i} h l m k = go (ltb k i) refl
    where
      go : (t : Bool) → ltb k i ≡ t → get_or now k 0 ≡ get_or before k 0 + n * get_or from k 0
      go true e = h.grown k (ltb-true k i e)
      go false e =
          let u : i ≤ k = ltb-false k i e in
          let v : length from ≤ k = omega arith in
          let z : get_or from k 0 ≡ 0 = get_or-eq_default from 0 {n = k} v in
          h.same k u ∙ sym (ap (λ (x : ℕ). get_or before k 0 + n * x) z ∙ ap (λ (x : ℕ). get_or before k 0 + x) (mul-zero n) ∙ add-zero (get_or before k 0))

-- so many times a counter, and one more
pub times-fits : (n x : ℕ) → n ≤ most_times → x ≤ limit → n * x ≤ most_times * limit
times-fits n x h l = mul-le-mul h l
