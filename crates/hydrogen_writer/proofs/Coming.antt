-- What is put at one term of the text, and what is then to come.
-- Assumes nothing.
use Rattle.std.specs.Prelude.{Option}
use Prim.Native.Nat.{ℕ}
use mathlib.Core.Path.{◌≡◌, refl, sym, ap, subst, ◌∙◌}
use mathlib.Core.Bool.{Bool, true, false, cond, ◌&&◌, not}
use mathlib.Core.List.{List, [], ◌∷◌, ◌++◌, append_assoc}
use Rattle.formula_terms.specs.Term.{term_of}
use Rattle.formula_terms.specs.declared.term.Term.{Term}
use Rattle.hydrogen_text.specs.Hydrogens.{is_hydrogen, other_words}
use Rattle.hydrogen_text.specs.NewText.{is_later, comes_here, placed, spread}
use Rattle.hydrogen_writer.specs.Typed.{spaced, to_come, Puts}
use Rattle.hydrogen_writer.proofs.Shown.{Going, going_on}

module _ (c : Bool) (h : List ℕ) where
  -- at the end the hydrogens, if they are still to come
  pub coming-end : (wanted : Bool) (ws : List (List ℕ)) → ws ≡ [] → spread (to_come c h wanted ws) ≡ spaced wanted h
  unfolding spread placed other_words
  coming-end true ws e = rw e
  coming-end false ws e = rw e

  -- the hydrogens if they come here, then the term if it is another one
  coming : (wanted : Bool) (w : List ℕ) (ws : List (List ℕ))
      → spread (to_come c h wanted (w ∷ ws))
      ≡ spaced (comes_here c wanted (term_of w)) h ++ (spaced (not (is_hydrogen (term_of w))) w ++ spread (to_come c h (cond (comes_here c wanted (term_of w)) false wanted) ws))
  unfolding spread placed other_words
  coming wanted w ws = go wanted (is_hydrogen (term_of w)) (is_later c (term_of w)) refl
    where
      go : (wanted x y : Bool) → is_later c (term_of w) ≡ y
          → spread (cond wanted (placed c h (cond x (other_words ws) (w ∷ other_words ws))) (cond x (other_words ws) (w ∷ other_words ws)))
          ≡ spaced (wanted && (not x && y)) h ++ (spaced (not x) w ++ spread (to_come c h (cond (wanted && (not x && y)) false wanted) ws))
      go false true y e = refl
      go false false y e = sym (append_assoc w (32 ∷ []) (spread (other_words ws)))
      go true true y e = refl
      go true false true e =
          rw e (ap (λ (t : List ℕ). h ++ (32 ∷ t)) (sym (append_assoc w (32 ∷ []) (spread (other_words ws)))) ∙ sym (append_assoc h (32 ∷ []) ((w ++ (32 ∷ [])) ++ spread (other_words ws))))
      go true false false e = rw e (sym (append_assoc w (32 ∷ []) (spread (placed c h (other_words ws)))))

  -- one turn of the loop
  pub turn : (w : List ℕ) (ws : List (List ℕ)) {t : Option Term} → t ≡ term_of w → (wanted still : Bool) {out mid last all : List ℕ} {at m r : ℕ}
      → Going out at (spread (to_come c h wanted (w ∷ ws))) all
      → Puts out at (spaced (comes_here c wanted t) h) mid m → Puts mid m (spaced (not (is_hydrogen t)) w) last r
      → still ≡ cond (comes_here c wanted t) false wanted → Going last r (spread (to_come c h still ws)) all
  turn w ws {t} reads wanted still {out} {mid} {last} {all} {at} {m} {r} g p q e =
      let rest : List ℕ = spread (to_come c h still ws) in
      let is : spread (to_come c h wanted (w ∷ ws)) ≡ spaced (comes_here c wanted t) h ++ (spaced (not (is_hydrogen t)) w ++ rest)
      = coming wanted w ws
      ∙ ap (λ (x : Option Term). spaced (comes_here c wanted x) h ++ (spaced (not (is_hydrogen x)) w ++ spread (to_come c h (cond (comes_here c wanted x) false wanted) ws))) (sym reads)
      ∙ ap (λ (b : Bool). spaced (comes_here c wanted t) h ++ (spaced (not (is_hydrogen t)) w ++ spread (to_come c h b ws))) (sym e) in
      let first : Going out at (spaced (comes_here c wanted t) h ++ (spaced (not (is_hydrogen t)) w ++ rest)) all = subst (λ (l : List ℕ). Going out at l all) is g in
      going_on (spaced (not (is_hydrogen t)) w) rest (going_on (spaced (comes_here c wanted t) h) (spaced (not (is_hydrogen t)) w ++ rest) first p) q
