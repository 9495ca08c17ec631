-- How long the new text is: a larger count takes no fewer bytes.
-- Assumes nothing.
use Prim.Native.Nat.{ℕ, ◌+◌, ◌/◌, ◌≤◌}
use mathlib.Core.Path.{◌≡◌, refl, sym, ap, ◌∙◌}
use mathlib.Core.Bool.{Bool, true, false, cond, false≢true}
use mathlib.Core.List.{List, [], ◌∷◌, ◌++◌, append_assoc}
use native.Mathlib.Omega.{arith}
use borrow.Author.Tests.{leb-true, le-leb, lt-leb, eqb-true, eqb-false}
use lib.Dec.{leb, eqb}
use lib.ListN.{length, length-append}
use Rattle.formula_terms.specs.Term.{term_of}
use Rattle.formula_terms.specs.Terms.{cut}
use Rattle.formula_terms.specs.Grammar.{joined}
use Rattle.formula_symbols.specs.Symbols.{has_carbon}
use Rattle.hydrogen_text.specs.Hydrogens.{hydrogen_text, other_words}
use Rattle.hydrogen_text.specs.NewText.{is_later, placed, with_hydrogens, spread, new_words, new_text}
use Rattle.hydrogen_text.proofs.Digits.{last_digit, decimal-cases}
use Rattle.hydrogen_text.proofs.Words.{some_words, placed-some}

joined-spread : (w : List ℕ) (ws : List (List ℕ)) → joined (w ∷ ws) ++ (32 ∷ []) ≡ spread (w ∷ ws)
unfolding joined spread
joined-spread w [] = refl
joined-spread w (v ∷ vs) = append_assoc w (32 ∷ joined (v ∷ vs)) (32 ∷ []) ∙ ap (λ (t : List ℕ). w ++ (32 ∷ t)) (joined-spread v vs)

-- the text of some terms, at least one, with a space after it
pub spread-is : (ws : List (List ℕ)) → (ws ≡ [] → ⊥) → spread ws ≡ joined ws ++ (32 ∷ [])
spread-is [] h = absurd (h refl)
spread-is (w ∷ ws) h = sym (joined-spread w ws)

-- the bytes of n hydrogens, with the space after them
unfoldable width_of : ℕ → ℕ
width_of n = cond (leb n 0) 0 (cond (leb n 1) 2 (cond (leb n 9) 3 (cond (leb n 99) 4 (cond (leb n 999) 5 6))))

step-up : (a b : Bool) (x y u v : ℕ) → (b ≡ true → a ≡ true) → x ≤ y → x ≤ v → u ≤ v → x ≤ u → cond a x u ≤ cond b y v
step-up true true x y u v h l m n o = l
step-up true false x y u v h l m n o = m
step-up false true x y u v h l m n o = absurd (false≢true (h refl))
step-up false false x y u v h l m n o = n

up_to : (k i j : ℕ) → i ≤ j → leb j k ≡ true → leb i k ≡ true
up_to k i j l e = let h = leb-true j k e in le-leb i k (omega arith)

least : (a : Bool) (x y w : ℕ) → w ≤ x → w ≤ y → w ≤ cond a x y
least true x y w h l = h
least false x y w h l = l

width-up : (i j : ℕ) → i ≤ j → width_of i ≤ width_of j
unfolding width_of
width-up i j l =
    let w₅ : (k : ℕ) → 5 ≤ cond (leb k 999) 5 6 = λ k. least (leb k 999) 5 6 5 (omega arith) (omega arith) in
    let w₄ : (k : ℕ) → 4 ≤ cond (leb k 99) 4 (cond (leb k 999) 5 6) = λ k. let z = w₅ k in least (leb k 99) 4 _ 4 (omega arith) (omega arith) in
    let w₃ : (k : ℕ) → 3 ≤ cond (leb k 9) 3 (cond (leb k 99) 4 (cond (leb k 999) 5 6)) = λ k. let z = w₄ k in least (leb k 9) 3 _ 3 (omega arith) (omega arith) in
    let s₅ = step-up (leb i 999) (leb j 999) 5 5 6 6 (up_to 999 i j l) (omega arith) (omega arith) (omega arith) (omega arith) in
    let s₄ = step-up (leb i 99) (leb j 99) 4 4 _ _ (up_to 99 i j l) (omega arith) (omega (arith, w₅ j)) s₅ (omega (arith, w₅ i)) in
    let s₃ = step-up (leb i 9) (leb j 9) 3 3 _ _ (up_to 9 i j l) (omega arith) (omega (arith, w₄ j)) s₄ (omega (arith, w₄ i)) in
    let s₂ = step-up (leb i 1) (leb j 1) 2 2 _ _ (up_to 1 i j l) (omega arith) (omega (arith, w₃ j)) s₃ (omega (arith, w₃ i)) in
    step-up (leb i 0) (leb j 0) 0 0 _ _ (up_to 0 i j l) (omega arith) (omega arith) s₂ (omega arith)

text-width : (n : ℕ) → 1 ≤ n → length (hydrogen_text n) + 1 ≡ width_of n
unfolding hydrogen_text width_of
text-width n l = rw (lt-leb n 0 l, decimal-cases n) (go (leb n 1) (leb n 9) (leb n 99) (leb n 999))
  where
    go : (a b c d : Bool)
        → length {A = ℕ} (cond a (72 ∷ []) (72 ∷ cond b (last_digit n ∷ []) (cond c (last_digit (n / 10) ∷ (last_digit n ∷ [])) (cond d (last_digit (n / 10 / 10) ∷ (last_digit (n / 10) ∷ (last_digit n ∷ []))) (last_digit (n / 10 / 10 / 10) ∷ (last_digit (n / 10 / 10) ∷ (last_digit (n / 10) ∷ (last_digit n ∷ [])))))))) + 1
        ≡ cond a 2 (cond b 3 (cond c 4 (cond d 5 6)))
    go true b c d = refl
    go false true c d = refl
    go false false true d = refl
    go false false false true = refl
    go false false false false = refl

placed-spread : (c : Bool) (h : List ℕ) (ws : List (List ℕ)) → length (spread (placed c h ws)) ≡ length h + 1 + length (spread ws)
unfolding spread placed
placed-spread c h [] = omega (arith, length-append h (32 ∷ []))
placed-spread c h (w ∷ ws) = go (placed-spread c h ws) (is_later c (term_of w))
  where
    go : length (spread (placed c h ws)) ≡ length h + 1 + length (spread ws) → (x : Bool)
        → length (spread (cond x (h ∷ (w ∷ ws)) (w ∷ placed c h ws))) ≡ length h + 1 + length (w ++ (32 ∷ spread ws))
    go ih true = omega (arith, length-append h (32 ∷ (w ++ (32 ∷ spread ws))))
    go ih false = omega (arith, length-append w (32 ∷ spread (placed c h ws)), length-append w (32 ∷ spread ws))

with-spread : (c : Bool) (n : ℕ) (ws : List (List ℕ)) → length (spread (with_hydrogens c n ws)) ≡ length (spread ws) + width_of n
unfolding with_hydrogens width_of
with-spread c n ws = go (eqb n 0) refl
  where
    go : (x : Bool) → eqb n 0 ≡ x → length (spread (cond x ws (placed c (hydrogen_text n) ws))) ≡ length (spread ws) + width_of n
    go true e = let z = eqb-true n 0 e in rw z (omega arith)
    go false e = let z = eqb-false n 0 e in omega (arith, placed-spread c (hydrogen_text n) ws, text-width n (omega arith))

-- the new text with a space after it, unless no term is left
pub new-length : (n : ℕ) (s : List ℕ) → (new_words n s ≡ [] → ⊥) → length (new_text n s) + 1 ≡ length (spread (new_words n s))
unfolding new_text
new-length n s left = omega (arith, ap length (spread-is (new_words n s) left), length-append (joined (new_words n s)) (32 ∷ []))

-- terms are left by a count of at least 1
pub words_left : (n : ℕ) (s : List ℕ) → (n ≡ 0 → ⊥) → new_words n s ≡ [] → ⊥
unfolding with_hydrogens
words_left n s z = go (eqb n 0) refl
  where
    go : (x : Bool) → eqb n 0 ≡ x → cond x (other_words (cut s)) (placed (has_carbon s) (hydrogen_text n) (other_words (cut s))) ≡ [] → ⊥
    go true e q = z (eqb-true n 0 e)
    go false e q = placed-some (has_carbon s) (hydrogen_text n) (other_words (cut s)) q

-- a larger count takes no fewer bytes
pub longer : (m n : ℕ) (s : List ℕ) → m ≤ n → length (new_text m s) ≤ length (new_text n s)
unfolding new_text joined
longer m n s l = go (eqb m n) refl
  where
    by : (n ≡ 0 → ⊥) → (ws : List (List ℕ)) → new_words m s ≡ ws → length (joined (new_words m s)) ≤ length (new_text n s)
    by z [] e = rw e (omega arith)
    by z (w ∷ ws) e =
        omega (
          arith,
          new-length m s (λ q. some_words (sym e ∙ q)),
          new-length n s (words_left n s z),
          with-spread (has_carbon s) m (other_words (cut s)),
          with-spread (has_carbon s) n (other_words (cut s)),
          width-up m n l,
        )

    go : (x : Bool) → eqb m n ≡ x → length (new_text m s) ≤ length (new_text n s)
    go true e = let z = eqb-true m n e in rw z (omega arith)
    go false e = let z = eqb-false m n e in by (λ q. z (omega arith)) (new_words m s) refl
