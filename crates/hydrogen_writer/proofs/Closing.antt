-- The mark in place of the space after the last term makes the text as it is typed.
-- Assumes nothing.
use Prim.Native.Nat.{ℕ, ◌+◌, ◌-◌, ◌≤◌, ◌<◌}
use mathlib.Core.Path.{◌≡◌, refl, sym, ap, ◌∙◌}
use mathlib.Core.Bool.{Bool, true, false, cond, not}
use mathlib.Core.Logic.{◌⊎◌, inl, inr}
use mathlib.Core.List.{List, [], ◌∷◌, ◌++◌}
use native.Mathlib.Numerals.{add-one}
use native.Mathlib.Omega.{arith}
use borrow.Author.Tests.{le-leb, lt-leb}
use lib.Dec.{eqb}
use lib.ListN.{length, take, set}
use lib.Seq.{take-suc-set, take-take, take_at}
use Rattle.formula_terms.specs.Terms.{cut}
use Rattle.formula_terms.specs.Grammar.{joined}
use Rattle.formula_symbols.specs.Symbols.{has_carbon}
use Rattle.hydrogen_text.specs.Hydrogens.{most_text_bytes, hydrogen_text, other_words}
use Rattle.hydrogen_text.specs.NewText.{placed, with_hydrogens, spread, new_words, new_text}
use Rattle.hydrogen_text.proofs.Words.{some_words}
use Rattle.hydrogen_text.proofs.Bytes.{spread-is, new-length}
use Rattle.hydrogen_writer.specs.Typed.{typed_with, typed_most, to_come, Shows, whole, cut_off}

-- the terms that the loop has to put are those of the new text
pub new-coming : (n : ℕ) (s : List ℕ) → to_come (has_carbon s) (hydrogen_text n) (not (eqb n 0)) (cut s) ≡ new_words n s
unfolding with_hydrogens
new-coming n s = go (eqb n 0)
  where
    go : (b : Bool) → cond (not b) (placed (has_carbon s) (hydrogen_text n) (other_words (cut s))) (other_words (cut s)) ≡ cond b (other_words (cut s)) (placed (has_carbon s) (hydrogen_text n) (other_words (cut s)))
    go true = refl
    go false = refl

-- where the mark stands
abbrev pub Ends : ℕ → ℕ → Type 0
Ends at e = ((1 < at) × (e ≡ at - 1)) ⊎ ((at ≤ 1) × (e ≡ 1))

module _ (n : ℕ) (s out : List ℕ) (at : ℕ) (long : length out ≡ typed_most) where
  -- a text that does not fit is too long
  pub closed-off : typed_most < at → Shows out at (39 ∷ spread (new_words n s)) → [] ≡ typed_with n s
  unfolding typed_with spread
  closed-off l (whole e f t) = absurd (omega arith)
  closed-off l (cut_off a b) = go (new_words n s) refl
    where
      go : (ws : List (List ℕ)) → new_words n s ≡ ws → [] ≡ typed_with n s
      go [] e = let z = ap (λ (l : List (List ℕ)). length (spread l)) e in absurd (omega arith)
      go (w ∷ ws) e = rw (lt-leb (length (new_text n s)) most_text_bytes (omega (arith, new-length n s (λ q. some_words (sym e ∙ q)))))

  ended : (e : ℕ) → e < typed_most → (first : List ℕ) → take e out ≡ first → take (e + 1) (set out e 39) ≡ first ++ (39 ∷ [])
  ended e l first f = ap (λ (k : ℕ). take k (set out e 39)) (add-one e) ∙ take-suc-set out e 39 (omega arith) ∙ ap (λ (t : List ℕ). t ++ (39 ∷ [])) f

  pub closed : at ≤ typed_most → (e : ℕ) → Ends at e → Shows out at (39 ∷ spread (new_words n s)) → (take (e + 1) (set out e 39) ≡ typed_with n s) × (e < typed_most)
  unfolding typed_with spread new_text joined
  closed l e d (cut_off a b) = absurd (omega arith)
  closed l e d (whole k f t) = go (new_words n s) refl d
    where
      go : (ws : List (List ℕ)) → new_words n s ≡ ws → Ends at e → (take (e + 1) (set out e 39) ≡ typed_with n s) × (e < typed_most)
      go [] q (inl d) = let z = ap (λ (l : List (List ℕ)). length (spread l)) q in absurd (omega (arith, d.0))
      go [] q (inr d) =
          let z = ap (λ (l : List (List ℕ)). length (spread l)) q in
          let one : at ≡ e = omega (arith, d.1) in
          let here : take e out ≡ 39 ∷ [] = ap (λ (i : ℕ). take i out) (sym one) ∙ t ∙ ap (λ (l : List (List ℕ)). 39 ∷ spread l) q in
          let small : e < typed_most = omega (arith, d.1) in
          (ended e small (39 ∷ []) here ∙ rw q, small)
      go (w ∷ ws) q (inr d) = absurd (omega (arith, d.0, new-length n s (λ j. some_words (sym q ∙ j))))
      go (w ∷ ws) q (inl d) =
          let left : new_words n s ≡ [] → ⊥ = λ j. some_words (sym q ∙ j) in
          let size = new-length n s left in
          let small : e < typed_most = omega (arith, d.1) in
          let shown : take at out ≡ (39 ∷ new_text n s) ++ (32 ∷ []) = t ∙ ap (λ (l : List ℕ). 39 ∷ l) (spread-is (new_words n s) left) in
          let here : take e out ≡ 39 ∷ new_text n s
          = sym (take-take e at out (omega (arith, d.1))) ∙ ap (take e) shown ∙ take_at (39 ∷ new_text n s) (32 ∷ []) e (omega (arith, d.1)) in
          (ended e small (39 ∷ new_text n s) here ∙ rw (le-leb (length (new_text n s)) most_text_bytes (omega (arith, d.1))), small)
