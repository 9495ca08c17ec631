-- Laws of the sum of weights: a step over a term, and why no sum wraps.
-- Assumes nothing.
use Rattle.std.specs.Prelude.{Option, Some, None}
use mathlib.Core.Path.{◌≡◌, refl, sym, ap, ◌∙◌}
use mathlib.Core.Bool.{Bool, true, false, cond, not, ◌&&◌}
use mathlib.Core.List.{List, [], ◌∷◌, map}
use Prim.Native.Nat.{ℕ, ◌+◌, ◌*◌, ◌≤◌}
use native.Mathlib.Nat.{add_assoc, add-zero, zero-add, add-mul, mul-le-mul, mul-le-mul_right}
use native.Mathlib.Omega.{arith}
use borrow.Author.Tests.{leb-true}
use lib.Dec.{leb, eqb}
use lib.ListN.{length, get_or, drop}
use Rattle.text.specs.Run.{all, is_digit, is_capital, is_small, kind_at}
use Rattle.text.proofs.Bools.{and_both, cond-first}
use Rattle.number_decimal.specs.Digits.{value_of}
use Rattle.formula_terms.specs.Term.{most_count, is_count, count_of, with_count, term_of}
use Rattle.formula_terms.specs.Terms.{cut, terms_of}
use Rattle.formula_elements.specs.Elements.{is_element, weight_of, heaviest}
use Rattle.formula_elements.proofs.Weights.{weight-known}
use Rattle.formula_sum.specs.Recognised.{is_recognised, all_recognised}
use Rattle.formula_sum.specs.Sum.{most_summed, times, plus, term_weight, total_weight, sum_of, SmallCount}
use Rattle.formula_terms.specs.declared.term.Term.{Term}
use Rattle.formula_terms.proofs.Steps.{cut-few}

-- a count is at most 9999
CountSmall : Option ℕ → Type 0
CountSmall (Some n) = n ≤ most_count
CountSmall None = Unit {0}

value-small : (ds : List ℕ) (t : Bool) → is_count ds ≡ t → CountSmall (cond t (Some (value_of ds)) None)
unfolding is_count CountSmall
value-small ds true e =
    let a = and_both (all is_digit ds) _ e in
    let b = and_both (not (eqb (get_or ds 0 0) 48)) _ a.1 in
    leb-true _ _ (and_both (leb 1 (value_of ds)) _ b.1).1
value-small ds false e = tt

count_by : (t : Bool) (c : Option ℕ) → CountSmall c → CountSmall (cond t (Some 1) c)
unfolding CountSmall
count_by true c h = omega arith
count_by false c h = h

count_small : (ds : List ℕ) → CountSmall (count_of ds)
unfolding count_of
count_small ds = count_by (eqb (length ds) 0) _ (value-small ds (is_count ds) refl)

counted-small : (a b : ℕ) (c : Option ℕ) → CountSmall c → SmallCount (with_count a b c)
unfolding CountSmall
counted-small a b (Some n) h = h
counted-small a b None h = tt

small_by : (t : Bool) (x y : Option Term) → SmallCount x → SmallCount y → SmallCount (cond t x y)
small_by true x y h k = h
small_by false x y h k = k

pub term-small : (t : List ℕ) → SmallCount (term_of t)
unfolding term_of
term-small t =
    small_by (kind_at is_capital t 0) _ _
    (small_by (kind_at is_small t 1) _ _ (counted-small _ _ _ (count_small (drop 2 t))) (counted-small _ _ _ (count_small (drop 1 t))))
    tt

-- so many of a light weight are a small weight
pub product_small : (n w : ℕ) → n ≤ most_count → w ≤ heaviest → n * w ≤ most_count * heaviest
product_small n w h l = mul-le-mul h l

plus_assoc : (u w : ℕ) (v : Option ℕ) → plus (Some u) (plus (Some w) v) ≡ plus (Some (u + w)) v
plus_assoc u w (Some v) = ap Some (sym (add_assoc u w v))
plus_assoc u w None = refl

plus-zero : (v : Option ℕ) → v ≡ plus (Some 0) v
plus-zero (Some v) = ap Some (sym (zero-add v))
plus-zero None = refl

-- the sum so far and the weights of the words left are the total, and the sum is small, by the words that are left
pub record Summing (s : List ℕ) (sum : ℕ) (left : List (List ℕ)) : Type 0 where
  pub total : total_weight (terms_of s) ≡ plus (Some sum) (total_weight (map term_of left))
  pub small : sum + length left * (most_count * heaviest) ≤ (length s + 1) * (most_count * heaviest)

pub sum-start : (s : List ℕ) → Summing s 0 (cut s)
sum-start s =
    record {
      total = plus-zero (total_weight (terms_of s));
      small = let m = mul-le-mul_right (most_count * heaviest) (cut-few s) in omega arith;
    }

module _ {s : List ℕ} {sum : ℕ} {w : List ℕ} {ws : List (List ℕ)} (h : Summing s sum (w ∷ ws)) where
  pub sum-next : (u : ℕ) → term_weight (term_of w) ≡ Some u → u ≤ most_count * heaviest → Summing s (sum + u) ws
  unfolding total_weight
  sum-next u e l =
      record {
        total = h.total ∙ ap (λ (v : Option ℕ). plus (Some sum) (plus v (total_weight (map term_of ws)))) e ∙ plus_assoc sum u (total_weight (map term_of ws));
        small = let m = add-mul (length ws) 1 (most_count * heaviest) in omega (arith, h.small, m);
      }

  pub sum-none : term_weight (term_of w) ≡ None → total_weight (terms_of s) ≡ None
  unfolding total_weight
  sum-none e = h.total ∙ ap (λ (v : Option ℕ). plus (Some sum) (plus v (total_weight (map term_of ws)))) e

pub sum-end : {s : List ℕ} {sum : ℕ} → Summing s sum [] → total_weight (terms_of s) ≡ Some sum
unfolding total_weight
sum-end {s} {sum} h = h.total ∙ ap Some (add-zero sum)

-- a formula that has a sum is recognised: its terms have weights
weighed-term : (t : Option Term) (w : ℕ) → term_weight t ≡ Some w → is_recognised t ≡ true
weighed-term (Some t) w e = weighed-symbol t.symbol.first t.symbol.second t.count w (weight_of t.symbol.first t.symbol.second) refl e
  where
    weighed-symbol : (a b n w : ℕ) (u : Option ℕ) → weight_of a b ≡ u → times n u ≡ Some w → is_element a b ≡ true
    weighed-symbol a b n w (Some v) f e = weight-known a b v f
    weighed-symbol a b n w None f e = let z : ◌≡◌ {A = ℕ} 0 1 = cc in absurd (omega arith)
weighed-term None w e = let z : ◌≡◌ {A = ℕ} 0 1 = cc in absurd (omega arith)

weighed-by : (t : Option Term) (ts : List (Option Term)) (w : ℕ) (u v : Option ℕ) → term_weight t ≡ u → total_weight ts ≡ v → plus u v ≡ Some w
    → ((x : ℕ) → total_weight ts ≡ Some x → all is_recognised ts ≡ true) → (is_recognised t && all is_recognised ts) ≡ true
weighed-by t ts w (Some x) (Some y) e f g rest = rw (weighed-term t x e) (rest y f)
weighed-by t ts w (Some x) None e f g rest = let z : ◌≡◌ {A = ℕ} 0 1 = cc in absurd (omega arith)
weighed-by t ts w None v e f g rest = let z : ◌≡◌ {A = ℕ} 0 1 = cc in absurd (omega arith)

pub weighed-terms : (ts : List (Option Term)) (w : ℕ) → total_weight ts ≡ Some w → all is_recognised ts ≡ true
unfolding total_weight all
weighed-terms [] w e = refl
weighed-terms (t ∷ ts) w e = weighed-by t ts w (term_weight t) (total_weight ts) refl refl e (weighed-terms ts)

pub no-sum : (n : ℕ) → None ≡ Some n → ⊥
no-sum n e = let z : ◌≡◌ {A = ℕ} 0 1 = cc in omega arith

pub summed-recognised : (s : List ℕ) (n : ℕ) → sum_of s ≡ Some n → all_recognised s ≡ true
unfolding sum_of all_recognised
summed-recognised s n e =
    weighed-terms (terms_of s) n (cond-first (leb (length s) most_summed) (total_weight (terms_of s)) None (Some n) (no-sum n) e).1
