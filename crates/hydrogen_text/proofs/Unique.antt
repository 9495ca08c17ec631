-- Where the terms of a text stand in order, the term of hydrogen has one place: the text is determined by its other terms and the count.
-- Assumes nothing.
use Rattle.std.specs.Prelude.{Option, Some, None}
use Prim.Native.Nat.{ℕ, ◌<◌}
use mathlib.Core.Path.{◌≡◌, refl, sym, ap, subst, ◌∙◌}
use mathlib.Core.Bool.{Bool, true, false, cond, false≢true}
use mathlib.Core.List.{List, [], ◌∷◌, map}
use native.Mathlib.Omega.{arith}
use borrow.Author.Tests.{ltb-true, le-ltb}
use lib.Dec.{eqb, ltb}
use Rattle.text.specs.Run.{all}
use Rattle.text.proofs.Bools.{and_both}
use Rattle.formula_elements.specs.Elements.{same_symbol}
use Rattle.formula_terms.specs.Term.{term_of}
use Rattle.formula_terms.specs.Terms.{cut}
use Rattle.formula_terms.specs.Grammar.{joined}
use Rattle.formula_terms.proofs.Wording.{cut-joins}
use Rattle.formula_terms.specs.declared.term.Term.{Term}
use Rattle.formula_symbols.specs.Symbols.{has_carbon}
use Rattle.formula_sum.specs.Recognised.{is_recognised, all_recognised}
use Rattle.formula_order.specs.Order.{order_key, order_keys, rising, in_order}
use Rattle.hydrogen_text.specs.Hydrogens.{hydrogen_text, hydrogen_terms, is_hydrogen, hydrogen_words, other_words}
use Rattle.hydrogen_text.specs.NewText.{is_later, placed, with_hydrogens, new_text}
use Rattle.hydrogen_text.proofs.Words.{some_words, same-carbon}
use Rattle.hydrogen_text.proofs.Keys.{hydrogen_key, own_key}
use Rattle.hydrogen_text.proofs.Rows.{rises}

-- with no term of hydrogen all terms are others
none-others : (ws : List (List ℕ)) → hydrogen_words ws ≡ [] → other_words ws ≡ ws
unfolding hydrogen_words other_words
none-others [] e = refl
none-others (w ∷ ws) e = go (none-others ws) (is_hydrogen (term_of w)) e
  where
    go : (hydrogen_words ws ≡ [] → other_words ws ≡ ws) → (x : Bool) → cond x (w ∷ hydrogen_words ws) (hydrogen_words ws) ≡ [] → cond x (other_words ws) (w ∷ other_words ws) ≡ w ∷ ws
    go ih true e = absurd (some_words e)
    go ih false e = ap (λ (l : List (List ℕ)). w ∷ l) (ih e)

module _ (c : Bool) (h : List ℕ) where
  -- what stands before hydrogen has the smaller order key
  above : (low : ℕ) (ws : List (List ℕ)) → rises c low ws ≡ true → hydrogen_words ws ≡ h ∷ [] → low < hydrogen_key c
  unfolding hydrogen_words rising
  above low [] e one = absurd (some_words (sym one))
  above low (w ∷ ws) e one = go (λ k. above k ws) (term_of w) e one
    where
      go : ((k : ℕ) → rises c k ws ≡ true → hydrogen_words ws ≡ h ∷ [] → k < hydrogen_key c) → (t : Option Term) → rising low (order_keys c (t ∷ map term_of ws)) ≡ true
          → cond (is_hydrogen t) (w ∷ hydrogen_words ws) (hydrogen_words ws) ≡ h ∷ [] → low < hydrogen_key c
      go ih None e one = ih low e one
      go ih (Some t) e one =
          let k = and_both (ltb low (order_key c t.symbol.first t.symbol.second)) (rising (order_key c t.symbol.first t.symbol.second) (order_keys c (map term_of ws))) e in
          by (ltb-true low (order_key c t.symbol.first t.symbol.second) k.0) k.1 (same_symbol t.symbol.first t.symbol.second 72 32) refl one
        where
          by : low < order_key c t.symbol.first t.symbol.second → rises c (order_key c t.symbol.first t.symbol.second) ws ≡ true → (x : Bool) → same_symbol t.symbol.first t.symbol.second 72 32 ≡ x → cond x (w ∷ hydrogen_words ws) (hydrogen_words ws) ≡ h ∷ []
              → low < hydrogen_key c
          by l u true s one = omega (arith, own_key c t.symbol.first t.symbol.second s)
          by l u false s one = omega (arith, ih (order_key c t.symbol.first t.symbol.second) u one)

  -- before what stands after it
  placed_first : (ws : List (List ℕ)) → rises c (hydrogen_key c) ws ≡ true → placed c h ws ≡ h ∷ ws
  unfolding placed rising
  placed_first [] e = refl
  placed_first (w ∷ ws) e = go (term_of w) e
    where
      go : (t : Option Term) → rising (hydrogen_key c) (order_keys c (t ∷ map term_of ws)) ≡ true → cond (is_later c t) (h ∷ (w ∷ ws)) (w ∷ placed c h ws) ≡ h ∷ (w ∷ ws)
      go None e = refl
      go (Some t) e = rw (and_both (ltb (hydrogen_key c) (order_key c t.symbol.first t.symbol.second)) (rising (order_key c t.symbol.first t.symbol.second) (order_keys c (map term_of ws))) e).0

  placed-back : (low : ℕ) (ws : List (List ℕ)) → all is_recognised (map term_of ws) ≡ true → rises c low ws ≡ true → hydrogen_words ws ≡ h ∷ [] → placed c h (other_words ws) ≡ ws
  unfolding all hydrogen_words other_words placed rising
  placed-back low [] r e one = absurd (some_words (sym one))
  placed-back low (w ∷ ws) r e one =
      let k = and_both (is_recognised (term_of w)) (all is_recognised (map term_of ws)) r in go (λ j. placed-back j ws k.1) (term_of w) refl k.0 e one
    where
      go : ((k : ℕ) → rises c k ws ≡ true → hydrogen_words ws ≡ h ∷ [] → placed c h (other_words ws) ≡ ws) → (t : Option Term) → term_of w ≡ t → is_recognised t ≡ true
          → rising low (order_keys c (t ∷ map term_of ws)) ≡ true → cond (is_hydrogen t) (w ∷ hydrogen_words ws) (hydrogen_words ws) ≡ h ∷ []
          → placed c h (cond (is_hydrogen t) (other_words ws) (w ∷ other_words ws)) ≡ w ∷ ws
      go ih None q r e one = absurd (false≢true r)
      go ih (Some t) q r e one =
          let k = and_both (ltb low (order_key c t.symbol.first t.symbol.second)) (rising (order_key c t.symbol.first t.symbol.second) (order_keys c (map term_of ws))) e in
          by k.1 (same_symbol t.symbol.first t.symbol.second 72 32) refl one
        where
          by : rises c (order_key c t.symbol.first t.symbol.second) ws ≡ true → (x : Bool) → same_symbol t.symbol.first t.symbol.second 72 32 ≡ x → cond x (w ∷ hydrogen_words ws) (hydrogen_words ws) ≡ h ∷ []
              → placed c h (cond x (other_words ws) (w ∷ other_words ws)) ≡ w ∷ ws
          by u true s one =
              let same : w ≡ h = cc in
              let none : hydrogen_words ws ≡ [] = cc in
              let after = subst (λ (k : ℕ). rises c k ws ≡ true) (own_key c t.symbol.first t.symbol.second s) u in
              ap (placed c h) (none-others ws none) ∙ placed_first ws after ∙ ap (λ (v : List ℕ). v ∷ ws) (sym same)
          by u false s one =
              let l = above (order_key c t.symbol.first t.symbol.second) ws u one in
              rw (q, le-ltb (hydrogen_key c) (order_key c t.symbol.first t.symbol.second) (omega arith)) (ap (λ (l : List (List ℕ)). w ∷ l) (ih (order_key c t.symbol.first t.symbol.second) u one))

-- the terms of a text in order are the other terms with its hydrogens
with-back : (c : Bool) (n : ℕ) (ws : List (List ℕ)) → all is_recognised (map term_of ws) ≡ true → rises c 0 ws ≡ true → hydrogen_words ws ≡ hydrogen_terms n → with_hydrogens c n (other_words ws) ≡ ws
unfolding with_hydrogens hydrogen_terms
with-back c n ws r e is = go (eqb n 0) is
  where
    go : (x : Bool) → hydrogen_words ws ≡ cond x [] (hydrogen_text n ∷ []) → cond x (other_words ws) (placed c (hydrogen_text n) (other_words ws)) ≡ ws
    go true one = none-others ws one
    go false one = placed-back c (hydrogen_text n) 0 ws r e one

-- "at the one place that row 2 allows": a text with the other terms of s in their order and n hydrogens is the new text
pub one-text : (s t : List ℕ) (n : ℕ) → all_recognised t ≡ true → in_order t ≡ true → other_words (cut t) ≡ other_words (cut s) → hydrogen_words (cut t) ≡ hydrogen_terms n → t ≡ new_text n s
unfolding all_recognised in_order new_text
one-text s t n r e same is =
    sym (cut-joins t)
    ∙ ap joined (sym (with-back (has_carbon t) n (cut t) r e is))
    ∙ ap (λ (c : Bool). joined (with_hydrogens c n (other_words (cut t)))) (same-carbon s t same)
    ∙ ap (λ (ws : List (List ℕ)). joined (with_hydrogens (has_carbon s) n ws)) same
