-- What rows 1 and 2 say of a text as it is typed, in quotes.
-- Assumes nothing.
use Rattle.std.specs.Prelude.{Option, Some, None}
use Prim.Native.Nat.{ℕ, ◌-◌}
use native.Mathlib.Nat.{suc-ne-zero}
use mathlib.Core.Path.{◌≡◌, refl, sym, ap, ◌∙◌}
use mathlib.Core.Bool.{Bool, true, false, cond, ◌&&◌, false≢true, and-false}
use mathlib.Core.Logic.{⊎_elim}
use mathlib.Core.List.{List, [], ◌∷◌, ◌++◌, map}
use native.Mathlib.Omega.{arith}
use borrow.Author.Tests.{ne_eqb}
use lib.Dec.{leb, ltb, eqb}
use lib.ListN.{length, get_or, length-append}
use lib.Seq.{take-append_seam}
use Rattle.text.specs.Run.{all, between, other, kind_at, is_digit, is_capital, is_small}
use Rattle.text.proofs.Bools.{and_both, or-either, not-holds}
use Rattle.text.proofs.Runs.{all_append, all-lack}
use Rattle.line_quotes.specs.Quoted.{inner, is_quoted_by, is_quoted, text_of}
use Rattle.line_values.specs.Value.{is_unassigned}
use Rattle.line_values.specs.Wording.{Mark}
use Rattle.line_values.proofs.Values.{text-inside}
use Rattle.formula_terms.specs.Term.{term_of}
use Rattle.formula_terms.specs.Terms.{attach, cut}
use Rattle.formula_terms.specs.Grammar.{SymbolText, capital, capital_small, CountText, IsTerm, joined}
use Rattle.formula_terms.specs.Grammar as grammar
use Rattle.formula_terms.proofs.TermCases.{no-capital}
use Rattle.formula_terms.proofs.Wording.{term_is, cut-joins}
use Rattle.formula_terms.specs.declared.term.Term.{Term}
use Rattle.formula_sum.specs.Recognised.{is_recognised, all_recognised}
use Rattle.formula_order.specs.Order.{in_order}
use Rattle.rows.specs.Rows.{row_of, no_alert, missing}
use Rattle.rows_formula.specs.FormulaRows.{row1, row2}
use Rattle.hydrogen_text.specs.Hydrogens.{in_quotes}

-- a text without the mark
abbrev pub Plain : List ℕ → Type 0
Plain t = all (other 39) t ≡ true

module _ (t : List ℕ) where
  -- a text in quotes is not missing
  pub typed-there : missing (in_quotes t) ≡ false
  unfolding missing is_unassigned
  typed-there =
      let a : length (in_quotes t) ≡ 0 → ⊥ = λ e. omega (arith, length-append t (39 ∷ [])) in
      let b : length (in_quotes t) ≡ 1 → ⊥ = λ e. omega (arith, length-append t (39 ∷ [])) in
      rw (ne_eqb (length (in_quotes t)) 0 a, ne_eqb (length (in_quotes t)) 1 b)

  -- its text without quotes
  pub typed-text : Plain t → text_of (in_quotes t) ≡ t
  typed-text e = text-inside (in_quotes t) t (record { mark = 39; is_mark = Mark.single; text = refl; without = e })

  inner-is : inner (in_quotes t) ≡ t
  inner-is = let e : length (in_quotes t) - 2 ≡ length t = omega (arith, length-append t (39 ∷ [])) in rw e (take-append_seam t (39 ∷ []))

  -- with a mark inside it is not quoted
  not-by-39 : all (other 39) t ≡ false → is_quoted_by 39 (in_quotes t) ≡ true → ⊥
  unfolding is_quoted_by
  not-by-39 e h =
      let a = and_both (leb 2 (length (in_quotes t))) _ h in
      let b = and_both (eqb (get_or (in_quotes t) 0 0) 39) _ a.1 in
      let c = and_both (eqb (get_or (in_quotes t) (length (in_quotes t) - 1) 0) 39) _ b.1 in
      false≢true (sym e ∙ sym (ap (all (other 39)) inner-is) ∙ c.1)

  not-by-34 : is_quoted_by 34 (in_quotes t) ≡ true → ⊥
  unfolding is_quoted_by
  not-by-34 h = let a = and_both (leb 2 (length (in_quotes t))) _ h in false≢true a.1

  not-quoted : all (other 39) t ≡ false → is_quoted (in_quotes t) ≡ false
  unfolding is_quoted
  not-quoted e = not-holds _ (λ h. ⊎_elim (not-by-39 e) not-by-34 (or-either (is_quoted_by 39 (in_quotes t)) (is_quoted_by 34 (in_quotes t)) h))

-- a text that begins with a mark has an ill-formed term
mark-ill : (r : List ℕ) → term_of (39 ∷ r) ≡ None
unfolding kind_at between
mark-ill r = no-capital (39 ∷ r) (and-false (ltb 0 (length (39 ∷ r))))

attach-ill : (ws : List (List ℕ)) → all is_recognised (map term_of (attach 39 ws)) ≡ false
unfolding all
attach-ill [] = rw (mark-ill [])
attach-ill (w ∷ ws) = rw (mark-ill w)

mark-unknown : (r : List ℕ) → all_recognised (39 ∷ r) ≡ false
unfolding all_recognised cut
mark-unknown r = attach-ill (cut r)

module _ (t : List ℕ) where
  marked-unknown : all (other 39) t ≡ false → all_recognised (text_of (in_quotes t)) ≡ false
  unfolding text_of
  marked-unknown e = rw (not-quoted t e) (mark-unknown (t ++ (39 ∷ [])))

  level-1 : (row1 (in_quotes t)).level ≡ cond (all_recognised (text_of (in_quotes t))) 0 4
  unfolding row1
  level-1 = rw (typed-there t) (go (all_recognised (text_of (in_quotes t))))
    where
      go : (b : Bool) → (cond b no_alert (row_of 4 0)).level ≡ cond b 0 4
      go true = refl
      go false = refl

  level-2 : (row2 (in_quotes t)).level ≡ cond (in_order (text_of (in_quotes t))) 0 3
  unfolding row2
  level-2 = rw (typed-there t) (go (in_order (text_of (in_quotes t))))
    where
      go : (b : Bool) → (cond b no_alert (row_of 3 0)).level ≡ cond b 0 3
      go true = refl
      go false = refl

  -- row 1 at level 0: no mark inside, and all terms recognised
  pub row-1-is : (row1 (in_quotes t)).level ≡ 0 → Plain t × (all_recognised t ≡ true)
  row-1-is e = go (all (other 39) t) refl
    where
      holds : (b : Bool) → ◌≡◌ {A = ℕ} (cond b 0 4) 0 → b ≡ true
      holds true e = refl
      holds false e = absurd (suc-ne-zero 3 e)

      known : all_recognised (text_of (in_quotes t)) ≡ true
      known = holds (all_recognised (text_of (in_quotes t))) (sym level-1 ∙ e)

      go : (b : Bool) → all (other 39) t ≡ b → Plain t × (all_recognised t ≡ true)
      go true p = (p, ap all_recognised (sym (typed-text t p)) ∙ known)
      go false p = absurd (false≢true (sym (marked-unknown p) ∙ known))

  pub row-2-is : Plain t → (row2 (in_quotes t)).level ≡ 0 → in_order t ≡ true
  row-2-is p e = ap in_order (sym (typed-text t p)) ∙ holds (in_order (text_of (in_quotes t))) (sym level-2 ∙ e)
    where
      holds : (b : Bool) → ◌≡◌ {A = ℕ} (cond b 0 3) 0 → b ≡ true
      holds true e = refl
      holds false e = absurd (suc-ne-zero 2 e)

  -- and the other way
  pub row-1-of : Plain t → all_recognised t ≡ true → (row1 (in_quotes t)).level ≡ 0
  row-1-of p e = level-1 ∙ rw (typed-text t p, e)

  pub row-2-of : Plain t → in_order t ≡ true → (row2 (in_quotes t)).level ≡ 0
  row-2-of p e = level-2 ∙ rw (typed-text t p, e)

-- a text whose terms are recognised has no mark
count-plain : {t : List ℕ} {n : ℕ} → CountText t n → Plain t
unfolding all between
count-plain grammar.none = refl
count-plain (grammar.written ds a z l m) = all-lack is_digit 39 refl ds a

symbol-plain : {t : List ℕ} {a b : ℕ} → SymbolText t a b → Plain t
unfolding all between
symbol-plain (capital a up) = all-lack is_capital 39 refl (a ∷ []) (one_of is_capital a up)
  where
    one_of : (p : ℕ → Bool) (x : ℕ) → p x ≡ true → (p x && true) ≡ true
    one_of p x e = rw e
symbol-plain (capital_small a b up low) =
    all_append (other 39) (a ∷ []) (b ∷ []) (all-lack is_capital 39 refl (a ∷ []) (one_of is_capital a up)) (all-lack is_small 39 refl (b ∷ []) (one_of is_small b low))
  where
    one_of : (p : ℕ → Bool) (x : ℕ) → p x ≡ true → (p x && true) ≡ true
    one_of p x e = rw e

term-plain : (w : List ℕ) (t : Option Term) → term_of w ≡ t → is_recognised t ≡ true → Plain w
term-plain w None e r = absurd (false≢true r)
term-plain w (Some t) e r =
    let a = t.symbol.first in
    let b = t.symbol.second in
    let n = t.count in
    let h = term_is w a b n e in
    ap (all (other 39)) h.text ∙ all_append (other 39) h.symbol h.count (symbol-plain h.is_symbol) (count-plain h.is_count)

joined-plain : (ws : List (List ℕ)) → all is_recognised (map term_of ws) ≡ true → Plain (joined ws)
unfolding all joined other
joined-plain [] e = refl
joined-plain (w ∷ []) e = term-plain w (term_of w) refl (and_both (is_recognised (term_of w)) _ e).0
joined-plain (w ∷ (v ∷ vs)) e =
    let k = and_both (is_recognised (term_of w)) (all is_recognised (map term_of (v ∷ vs))) e in
    all_append (other 39) w (32 ∷ joined (v ∷ vs)) (term-plain w (term_of w) refl k.0) (joined-plain (v ∷ vs) k.1)

pub known-plain : (t : List ℕ) → all_recognised t ≡ true → Plain t
unfolding all_recognised
known-plain t e = ap (all (other 39)) (sym (cut-joins t)) ∙ joined-plain (cut t) e
