-- With another count of hydrogen rows 1 and 2 stay at level 0, and the sum is that of the other terms and 1008 for each hydrogen.
-- Assumes nothing.
use Rattle.std.specs.Prelude.{Option, Some, None}
use Prim.Native.Nat.{ℕ, ◌+◌, ◌*◌, ◌≤◌, ◌<◌}
use mathlib.Core.Path.{◌≡◌, refl, ap, ◌∙◌}
use mathlib.Core.Bool.{Bool, true, false, cond, false≢true}
use mathlib.Core.List.{List, [], ◌∷◌, map}
use native.Mathlib.Omega.{arith}
use borrow.Author.Tests.{ltb-true, lt-ltb, eqb-true, eqb-false}
use lib.Dec.{eqb, ltb}
use Rattle.text.specs.Run.{all}
use Rattle.text.proofs.Bools.{and_both}
use Rattle.formula_elements.specs.Elements.{same_symbol, place_of, symbols, element_of, is_element, weights, weight_in, weight_of}
use Rattle.formula_terms.specs.Term.{term_of, well}
use Rattle.formula_terms.specs.Terms.{cut, terms_of}
use Rattle.formula_terms.specs.declared.term.Term.{Term}
use Rattle.formula_symbols.specs.Symbols.{has_carbon}
use Rattle.formula_sum.specs.Recognised.{is_recognised, all_recognised}
use Rattle.formula_sum.specs.Sum.{plus, term_weight, total_weight}
use Rattle.formula_order.specs.Order.{order_key, order_keys, rising, in_order}
use Rattle.hydrogen_text.specs.Hydrogens.{most_hydrogens, hydrogen_text, is_hydrogen, hydrogen_words, other_words}
use Rattle.hydrogen_text.specs.NewText.{is_later, placed, with_hydrogens, new_words, new_text}
use Rattle.hydrogen_text.proofs.Digits.{text-reads}
use Rattle.hydrogen_text.proofs.Words.{some_words, new-cut, new_others, other_none, same-carbon}
use Rattle.hydrogen_text.proofs.Keys.{hydrogen_key, key_above, key-before}

-- ---- row 1

abbrev known : List (List ℕ) → Bool
known ws = all is_recognised (map term_of ws)

-- what holds of every term holds of the other ones
pub others-all : (p : Option Term → Bool) (ws : List (List ℕ)) → all p (map term_of ws) ≡ true → all p (map term_of (other_words ws)) ≡ true
unfolding all other_words
others-all p [] e = refl
others-all p (w ∷ ws) e = let k = and_both (p (term_of w)) (all p (map term_of ws)) e in go (others-all p ws k.1) k.0 (is_hydrogen (term_of w))
  where
    go : all p (map term_of (other_words ws)) ≡ true → p (term_of w) ≡ true → (x : Bool) → all p (map term_of (cond x (other_words ws) (w ∷ other_words ws))) ≡ true
    go ih e true = ih
    go ih e false = rw (e, ih)

hydrogen-known : (n : ℕ) → is_recognised (well 72 32 n) ≡ true
unfolding is_element element_of place_of symbols same_symbol
hydrogen-known n = refl

-- ---- row 2

rising-lower : (low high : ℕ) (ks : List ℕ) → low ≤ high → rising high ks ≡ true → rising low ks ≡ true
unfolding rising
rising-lower low high [] l e = refl
rising-lower low high (k ∷ ks) l e =
    let b = and_both (ltb high k) (rising k ks) e in
    let h = ltb-true high k b.0 in
    rw (lt-ltb low k (omega arith), b.1)

abbrev pub rises : Bool → ℕ → List (List ℕ) → Bool
rises c low ws = rising low (order_keys c (map term_of ws))

others_rise : (c : Bool) (low : ℕ) (ws : List (List ℕ)) → rises c low ws ≡ true → rises c low (other_words ws) ≡ true
unfolding other_words rising
others_rise c low [] e = refl
others_rise c low (w ∷ ws) e = go (λ k. others_rise c k ws) (term_of w) refl e
  where
    go : ((k : ℕ) → rises c k ws ≡ true → rises c k (other_words ws) ≡ true) → (t : Option Term) → term_of w ≡ t → rising low (order_keys c (t ∷ map term_of ws)) ≡ true
        → rises c low (cond (is_hydrogen t) (other_words ws) (w ∷ other_words ws)) ≡ true
    go ih None q e = rw q (ih low e)
    go ih (Some t) q e =
        let k = and_both (ltb low (order_key c t.symbol.first t.symbol.second)) (rising (order_key c t.symbol.first t.symbol.second) (order_keys c (map term_of ws))) e in
        by (ih (order_key c t.symbol.first t.symbol.second) k.1) k.0 (same_symbol t.symbol.first t.symbol.second 72 32)
      where
        by : rises c (order_key c t.symbol.first t.symbol.second) (other_words ws) ≡ true → ltb low (order_key c t.symbol.first t.symbol.second) ≡ true → (x : Bool) → rises c low (cond x (other_words ws) (w ∷ other_words ws)) ≡ true
        by ih h true = let l = ltb-true low (order_key c t.symbol.first t.symbol.second) h in rising-lower low (order_key c t.symbol.first t.symbol.second) (order_keys c (map term_of (other_words ws))) (omega arith) ih
        by ih h false = rw (q, h, ih)

-- ---- a term of hydrogen among others

module _ (c : Bool) (h : List ℕ) (n : ℕ) (reads : term_of h ≡ well 72 32 n) where
  placed-known : (ws : List (List ℕ)) → known ws ≡ true → known (placed c h ws) ≡ true
  unfolding all placed
  placed-known [] e = rw (reads, hydrogen-known n)
  placed-known (w ∷ ws) e = let k = and_both (is_recognised (term_of w)) (known ws) e in go (placed-known ws k.1) k.0 k.1 (is_later c (term_of w))
    where
      go : known (placed c h ws) ≡ true → is_recognised (term_of w) ≡ true → known ws ≡ true → (x : Bool) → known (cond x (h ∷ (w ∷ ws)) (w ∷ placed c h ws)) ≡ true
      go ih a b true = rw (reads, hydrogen-known n, a, b)
      go ih a b false = rw (a, ih)

  placed-rise : (low : ℕ) (ws : List (List ℕ)) → low < hydrogen_key c → hydrogen_words ws ≡ [] → known ws ≡ true → rises c low ws ≡ true → rises c low (placed c h ws) ≡ true
  unfolding all placed rising hydrogen_words
  placed-rise low [] l z r e = rw (reads, lt-ltb low (hydrogen_key c) l)
  placed-rise low (w ∷ ws) l z r e =
      go (λ k q u. placed-rise k ws q u (and_both (is_recognised (term_of w)) (known ws) r).1) (term_of w) refl (and_both (is_recognised (term_of w)) (known ws) r).0 z e
    where
      go : ((k : ℕ) → k < hydrogen_key c → hydrogen_words ws ≡ [] → rises c k ws ≡ true → rises c k (placed c h ws) ≡ true)
          → (t : Option Term) → term_of w ≡ t → is_recognised t ≡ true → cond (is_hydrogen t) (w ∷ hydrogen_words ws) (hydrogen_words ws) ≡ [] → rising low (order_keys c (t ∷ map term_of ws)) ≡ true
          → rises c low (cond (is_later c t) (h ∷ (w ∷ ws)) (w ∷ placed c h ws)) ≡ true
      go ih None q r z e = absurd (false≢true r)
      go ih (Some t) q r z e =
          let k = and_both (ltb low (order_key c t.symbol.first t.symbol.second)) (rising (order_key c t.symbol.first t.symbol.second) (order_keys c (map term_of ws))) e in
          by k.0 k.1 (same_symbol t.symbol.first t.symbol.second 72 32) refl z (ltb (hydrogen_key c) (order_key c t.symbol.first t.symbol.second)) refl
        where
          by : ltb low (order_key c t.symbol.first t.symbol.second) ≡ true → rises c (order_key c t.symbol.first t.symbol.second) ws ≡ true
              → (y : Bool) → same_symbol t.symbol.first t.symbol.second 72 32 ≡ y → cond y (w ∷ hydrogen_words ws) (hydrogen_words ws) ≡ []
              → (x : Bool) → ltb (hydrogen_key c) (order_key c t.symbol.first t.symbol.second) ≡ x → rises c low (cond x (h ∷ (w ∷ ws)) (w ∷ placed c h ws)) ≡ true
          by p u true s z x v = absurd (some_words z)
          by p u false s z true v = rw (reads, q, lt-ltb low (hydrogen_key c) l, v, u)
          by p u false s z false v = rw (q, p, ih (order_key c t.symbol.first t.symbol.second) (key-before c w t.symbol.first t.symbol.second t.count q s v) z u)

  -- row 4
  plus-swap : (x y z : Option ℕ) → plus x (plus y z) ≡ plus y (plus x z)
  plus-swap None None z = refl
  plus-swap None (Some v) z = refl
  plus-swap (Some u) None z = refl
  plus-swap (Some u) (Some v) None = refl
  plus-swap (Some u) (Some v) (Some w) = let e : u + (v + w) ≡ v + (u + w) = omega arith in ap Some e

  hydrogen-weight : term_weight (term_of h) ≡ Some (n * 1008)
  unfolding weight_of weight_in weights same_symbol
  hydrogen-weight = rw reads

  placed_total : (ws : List (List ℕ)) → total_weight (map term_of (placed c h ws)) ≡ plus (Some (n * 1008)) (total_weight (map term_of ws))
  unfolding total_weight placed
  placed_total [] = ap (λ (w : Option ℕ). plus w (Some 0)) hydrogen-weight
  placed_total (w ∷ ws) = go (placed_total ws) (is_later c (term_of w))
    where
      go : total_weight (map term_of (placed c h ws)) ≡ plus (Some (n * 1008)) (total_weight (map term_of ws)) → (x : Bool)
          → total_weight (map term_of (cond x (h ∷ (w ∷ ws)) (w ∷ placed c h ws))) ≡ plus (Some (n * 1008)) (plus (term_weight (term_of w)) (total_weight (map term_of ws)))
      go ih true = ap (λ (v : Option ℕ). plus v (plus (term_weight (term_of w)) (total_weight (map term_of ws)))) hydrogen-weight
      go ih false = ap (plus (term_weight (term_of w))) ih ∙ plus-swap (term_weight (term_of w)) (Some (n * 1008)) (total_weight (map term_of ws))

-- ---- the new text

record Stays (c : Bool) (ws : List (List ℕ)) (base n : ℕ) : Type 0 where
  row_1 : known (with_hydrogens c n ws) ≡ true
  row_2 : rises c 0 (with_hydrogens c n ws) ≡ true
  sum : total_weight (map term_of (with_hydrogens c n ws)) ≡ Some (base + 1008 * n)

stays : (c : Bool) (ws : List (List ℕ)) (base n : ℕ) → n ≤ most_hydrogens → hydrogen_words ws ≡ [] → known ws ≡ true → rises c 0 ws ≡ true → total_weight (map term_of ws) ≡ Some base → Stays c ws base n
unfolding with_hydrogens
stays c ws base n m none r up sum = go (eqb n 0) refl
  where
    go : (x : Bool) → eqb n 0 ≡ x → Stays c ws base n
    go true e =
        let z = eqb-true n 0 e in
        let s : base ≡ base + 1008 * n = omega arith in
        record { row_1 = rw e r; row_2 = rw e up; sum = rw e (sum ∙ ap Some s) }
    go false e =
        let z = eqb-false n 0 e in
        let t = text-reads n (omega arith) m in
        let s : n * 1008 + base ≡ base + 1008 * n = omega arith in
        record {
          row_1 = rw e (placed-known c (hydrogen_text n) n t ws r);
          row_2 = rw e (placed-rise c (hydrogen_text n) n t 0 ws (key_above c) none r up);
          sum = rw e (placed_total c (hydrogen_text n) n t ws ∙ ap (plus (Some (n * 1008))) sum ∙ ap Some s);
        }

-- rows 1 and 2 of the new text, and the sum that row 4 looks at
pub record NewRows (s : List ℕ) (base n : ℕ) : Type 0 where
  pub row_1 : all_recognised (new_text n s) ≡ true
  pub row_2 : in_order (new_text n s) ≡ true
  pub sum : total_weight (terms_of (new_text n s)) ≡ Some (base + 1008 * n)

pub new-rows : (s : List ℕ) (base n : ℕ) → n ≤ most_hydrogens → (new_words n s ≡ [] → ⊥) → all_recognised s ≡ true → in_order s ≡ true
    → total_weight (map term_of (other_words (cut s))) ≡ Some base → NewRows s base n
unfolding all_recognised in_order
new-rows s base n m left r up sum =
    let c = has_carbon s in
    let ws = other_words (cut s) in
    let t = new-cut n s m left in
    let k = stays c ws base n m (other_none (cut s)) (others-all is_recognised (cut s) r) (others_rise c 0 (cut s) up) sum in
    let same = same-carbon s (new_text n s) (ap other_words t ∙ new_others c n (cut s) m) in
    record {
      row_1 = ap known t ∙ k.row_1;
      row_2 = ap (λ (d : Bool). rises d 0 (cut (new_text n s))) same ∙ ap (rises c 0) t ∙ k.row_2;
      sum = ap (λ (l : List (List ℕ)). total_weight (map term_of l)) t ∙ k.sum;
    }
