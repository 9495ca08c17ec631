-- The terms of the new text are the other terms in their order, with the term of hydrogen among them.
-- Assumes nothing.
use Rattle.std.specs.Prelude.{Option, Some, None}
use Prim.Native.Nat.{ℕ, ◌≤◌}
use mathlib.Core.Path.{◌≡◌, refl, sym, ap, ◌∙◌}
use mathlib.Core.Bool.{Bool, true, false, cond, ◌||◌}
use mathlib.Core.List.{List, [], ◌∷◌, map}
use native.Mathlib.Omega.{arith}
use borrow.Author.Tests.{eqb-true, eqb-false}
use lib.Dec.{eqb}
use Rattle.text.specs.Run.{all, other}
use Rattle.text.proofs.Bools.{and_both}
use Rattle.formula_elements.specs.Elements.{same_symbol, carbon}
use Rattle.formula_terms.specs.Term.{term_of}
use Rattle.formula_terms.specs.Terms.{cut, some}
use Rattle.formula_terms.specs.Grammar.{joined, spaceless}
use Rattle.formula_terms.proofs.Wording.{cut-joined, cut-spaceless}
use Rattle.formula_terms.specs.declared.term.Term.{Term}
use Rattle.formula_symbols.specs.Symbols.{is_wanted, has_term, has_carbon}
use Rattle.formula_symbols.specs.declared.Wanted.TheVariants.{Element}
use Rattle.hydrogen_text.specs.Hydrogens.{most_hydrogens, hydrogen_text, hydrogen_terms, is_hydrogen, hydrogen_words, other_words}
use Rattle.hydrogen_text.specs.NewText.{is_later, placed, with_hydrogens, new_words, new_text}
use Rattle.hydrogen_text.proofs.Digits.{text-reads, text-spaceless}

-- a list with a first element is not empty
pub some_words : {w : List ℕ} {ws : List (List ℕ)} → w ∷ ws ≡ [] → ⊥
some_words e = let z : ◌≡◌ {A = ℕ} 0 1 = cc in omega arith

-- ---- no spaces

other-spaceless : (ws : List (List ℕ)) → spaceless ws ≡ true → spaceless (other_words ws) ≡ true
unfolding other_words all
other-spaceless [] e = refl
other-spaceless (w ∷ ws) e = let k = and_both (all (other 32) w) (spaceless ws) e in go (other-spaceless ws k.1) k.0 (is_hydrogen (term_of w))
  where
    go : spaceless (other_words ws) ≡ true → all (other 32) w ≡ true → (x : Bool) → spaceless (cond x (other_words ws) (w ∷ other_words ws)) ≡ true
    go ih a true = ih
    go ih a false = rw (a, ih)

module _ (c : Bool) (h : List ℕ) where
  placed-spaceless : all (other 32) h ≡ true → (ws : List (List ℕ)) → spaceless ws ≡ true → spaceless (placed c h ws) ≡ true
  unfolding placed all
  placed-spaceless t [] e = rw t
  placed-spaceless t (w ∷ ws) e = let k = and_both (all (other 32) w) (spaceless ws) e in go (placed-spaceless t ws k.1) k.0 k.1 (is_later c (term_of w))
    where
      go : spaceless (placed c h ws) ≡ true → all (other 32) w ≡ true → spaceless ws ≡ true → (x : Bool) → spaceless (cond x (h ∷ (w ∷ ws)) (w ∷ placed c h ws)) ≡ true
      go ih a b true = rw (t, a, b)
      go ih a b false = rw (a, ih)

  pub placed-some : (ws : List (List ℕ)) → placed c h ws ≡ [] → ⊥
  unfolding placed
  placed-some [] e = some_words e
  placed-some (w ∷ ws) e = go (is_later c (term_of w)) e
    where
      go : (x : Bool) → cond x (h ∷ (w ∷ ws)) (w ∷ placed c h ws) ≡ [] → ⊥
      go true q = some_words q
      go false q = some_words q

with-spaceless : (c : Bool) (n : ℕ) (ws : List (List ℕ)) → n ≤ most_hydrogens → spaceless ws ≡ true → spaceless (with_hydrogens c n ws) ≡ true
unfolding with_hydrogens
with-spaceless c n ws m e = go (eqb n 0) refl
  where
    go : (x : Bool) → eqb n 0 ≡ x → spaceless (cond x ws (placed c (hydrogen_text n) ws)) ≡ true
    go true q = e
    go false q = let z = eqb-false n 0 q in placed-spaceless c (hydrogen_text n) (text-spaceless n (omega arith) m) ws e

-- the terms of the new text, unless none is left
pub new-cut : (n : ℕ) (s : List ℕ) → n ≤ most_hydrogens → (new_words n s ≡ [] → ⊥) → cut (new_text n s) ≡ new_words n s
unfolding new_text
new-cut n s m left = go (new_words n s) (with-spaceless (has_carbon s) n (other_words (cut s)) m (other-spaceless (cut s) (cut-spaceless s))) left
  where
    go : (ws : List (List ℕ)) → spaceless ws ≡ true → (ws ≡ [] → ⊥) → cut (joined ws) ≡ ws
    go [] e l = absurd (l refl)
    go (w ∷ ws) e l = cut-joined w ws e

-- ---- the other terms, and those of hydrogen

other-once : (ws : List (List ℕ)) → other_words (other_words ws) ≡ other_words ws
unfolding other_words
other-once [] = refl
other-once (w ∷ ws) = go (other-once ws) (is_hydrogen (term_of w)) refl
  where
    go : other_words (other_words ws) ≡ other_words ws → (x : Bool) → is_hydrogen (term_of w) ≡ x
        → other_words (cond x (other_words ws) (w ∷ other_words ws)) ≡ cond x (other_words ws) (w ∷ other_words ws)
    go ih true e = ih
    go ih false e = rw e (ap (λ (l : List (List ℕ)). w ∷ l) ih)

pub other_none : (ws : List (List ℕ)) → hydrogen_words (other_words ws) ≡ []
unfolding other_words hydrogen_words
other_none [] = refl
other_none (w ∷ ws) = go (other_none ws) (is_hydrogen (term_of w)) refl
  where
    go : hydrogen_words (other_words ws) ≡ [] → (x : Bool) → is_hydrogen (term_of w) ≡ x → hydrogen_words (cond x (other_words ws) (w ∷ other_words ws)) ≡ []
    go ih true e = ih
    go ih false e = rw e ih

module _ (c : Bool) (h : List ℕ) (is : is_hydrogen (term_of h) ≡ true) where
  placed-others : (ws : List (List ℕ)) → other_words (placed c h ws) ≡ other_words ws
  unfolding placed other_words
  placed-others [] = rw is
  placed-others (w ∷ ws) = go (placed-others ws) (is_later c (term_of w)) (is_hydrogen (term_of w)) refl
    where
      go : other_words (placed c h ws) ≡ other_words ws → (x y : Bool) → is_hydrogen (term_of w) ≡ y
          → other_words (cond x (h ∷ (w ∷ ws)) (w ∷ placed c h ws)) ≡ cond y (other_words ws) (w ∷ other_words ws)
      go ih true y e = rw (is, e)
      go ih false true e = rw e ih
      go ih false false e = rw e (ap (λ (l : List (List ℕ)). w ∷ l) ih)

  placed_one : (ws : List (List ℕ)) → hydrogen_words ws ≡ [] → hydrogen_words (placed c h ws) ≡ h ∷ []
  unfolding placed hydrogen_words
  placed_one [] e = rw is
  placed_one (w ∷ ws) e = go (placed_one ws) (is_later c (term_of w)) (is_hydrogen (term_of w)) refl e
    where
      go : (hydrogen_words ws ≡ [] → hydrogen_words (placed c h ws) ≡ h ∷ []) → (x y : Bool) → is_hydrogen (term_of w) ≡ y
          → cond y (w ∷ hydrogen_words ws) (hydrogen_words ws) ≡ [] → hydrogen_words (cond x (h ∷ (w ∷ ws)) (w ∷ placed c h ws)) ≡ h ∷ []
      go ih x true q n = absurd (some_words n)
      go ih true false q n = rw (is, q, n)
      go ih false false q n = rw q (ih n)

hydrogen-is : (n : ℕ) → n ≤ most_hydrogens → (n ≡ 0 → ⊥) → is_hydrogen (term_of (hydrogen_text n)) ≡ true
unfolding same_symbol
hydrogen-is n m z = ap is_hydrogen (text-reads n (omega arith) m)

-- "all other terms kept in order", and n hydrogens
pub new_others : (c : Bool) (n : ℕ) (ws : List (List ℕ)) → n ≤ most_hydrogens → other_words (with_hydrogens c n (other_words ws)) ≡ other_words ws
unfolding with_hydrogens
new_others c n ws m = go (eqb n 0) refl
  where
    go : (x : Bool) → eqb n 0 ≡ x → other_words (cond x (other_words ws) (placed c (hydrogen_text n) (other_words ws))) ≡ other_words ws
    go true e = other-once ws
    go false e = placed-others c (hydrogen_text n) (hydrogen-is n m (eqb-false n 0 e)) (other_words ws) ∙ other-once ws

pub new-hydrogens : (c : Bool) (n : ℕ) (ws : List (List ℕ)) → n ≤ most_hydrogens → hydrogen_words (with_hydrogens c n (other_words ws)) ≡ hydrogen_terms n
unfolding with_hydrogens hydrogen_terms
new-hydrogens c n ws m = go (eqb n 0) refl
  where
    go : (x : Bool) → eqb n 0 ≡ x → hydrogen_words (cond x (other_words ws) (placed c (hydrogen_text n) (other_words ws))) ≡ cond x [] (hydrogen_text n ∷ [])
    go true e = other_none ws
    go false e = placed_one c (hydrogen_text n) (hydrogen-is n m (eqb-false n 0 e)) (other_words ws) (other_none ws)

-- ---- C is among the other terms

hydrogen-not : (t : Option Term) → is_hydrogen t ≡ true → is_wanted (Element carbon) t ≡ false
unfolding same_symbol
hydrogen-not (Some t) e = let k = and_both (eqb t.symbol.first 72) (eqb t.symbol.second 32) e in let z = eqb-true t.symbol.first 72 k.0 in rw z
hydrogen-not None e = refl

carbon-other : (ws : List (List ℕ)) → some (is_wanted (Element carbon)) (map term_of (other_words ws)) ≡ some (is_wanted (Element carbon)) (map term_of ws)
unfolding other_words some
carbon-other [] = refl
carbon-other (w ∷ ws) = go (carbon-other ws) (is_hydrogen (term_of w)) refl
  where
    go : some (is_wanted (Element carbon)) (map term_of (other_words ws)) ≡ some (is_wanted (Element carbon)) (map term_of ws) → (x : Bool) → is_hydrogen (term_of w) ≡ x
        → some (is_wanted (Element carbon)) (map term_of (cond x (other_words ws) (w ∷ other_words ws))) ≡ (is_wanted (Element carbon) (term_of w) || some (is_wanted (Element carbon)) (map term_of ws))
    go ih true e = rw (hydrogen-not (term_of w) e) ih
    go ih false e = ap (λ (b : Bool). is_wanted (Element carbon) (term_of w) || b) ih

-- texts with the same other terms have C both or neither
pub same-carbon : (s t : List ℕ) → other_words (cut t) ≡ other_words (cut s) → has_carbon t ≡ has_carbon s
unfolding has_term
same-carbon s t e = sym (carbon-other (cut t)) ∙ ap (λ (ws : List (List ℕ)). some (is_wanted (Element carbon)) (map term_of ws)) e ∙ carbon-other (cut s)
