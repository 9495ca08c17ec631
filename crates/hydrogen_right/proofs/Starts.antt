-- The start passes its test exactly when it is as said; then rows 1 and 2 see a text in order, and the other terms have a sum.
-- Assumes nothing.
use Rattle.std.specs.Prelude.{Option, Some, None}
use Prim.Native.Nat.{ℕ, ◌+◌, ◌*◌}
use mathlib.Core.Path.{◌≡◌, refl, ap, ◌∙◌}
use mathlib.Core.Bool.{Bool, true, false, cond, false≢true}
use mathlib.Core.List.{List, [], ◌∷◌, map}
use native.Mathlib.Omega.{arith}
use borrow.Author.Tests.{eqb-true, not-true}
use lib.Dec.{eqb}
use Rattle.text.specs.Run.{all}
use Rattle.text.proofs.Bools.{and_both}
use Rattle.line_quotes.specs.Quoted.{text_of}
use Rattle.formula_elements.specs.Elements.{weight_of}
use Rattle.formula_terms.specs.Term.{term_of}
use Rattle.formula_terms.specs.Terms.{cut, terms_of}
use Rattle.formula_terms.specs.declared.term.Term.{Term}
use Rattle.formula_sum.specs.Recognised.{all_recognised}
use Rattle.formula_sum.specs.Sum.{times, plus, term_weight, total_weight}
use Rattle.formula_sum.proofs.Sums.{weighed-terms}
use Rattle.formula_order.specs.Order.{in_order}
use Rattle.rows.specs.Rows.{row_of, no_alert, missing}
use Rattle.rows_formula.specs.FormulaRows.{row1, row2}
use Rattle.hydrogen_text.specs.Hydrogens.{other_words}
use Rattle.hydrogen_text.proofs.Rows.{others-all}
use Rattle.std.specs.Option.{is_some}
use Rattle.hydrogen_right.specs.Right.{has_weight, all_weighed, Start}
use Rattle.hydrogen_right.specs.Stages.{is_start}

module _ (f w : List ℕ) where
  pub start_is : is_start f w ≡ true → Start f w
  unfolding is_start
  start_is e =
      let a = and_both (eqb (row1 f).level 0) _ e in
      let b = and_both (eqb (row2 f).level 0) _ a.1 in
      let c = and_both (all_weighed (text_of f)) _ b.1 in
      record { row_1 = eqb-true _ _ a.0; row_2 = eqb-true _ _ b.0; symbols = c.0; weight = not-true (missing w) c.1 }

  pub is-start : Start f w → is_start f w ≡ true
  unfolding is_start
  is-start h = rw (h.row_1, h.row_2, h.symbols, h.weight)

-- a row at level 0 passed its test
passed : (a b : Bool) (k : ℕ) → (cond a (row_of 2 1) (cond b no_alert (row_of k 0))).level ≡ 0 → (k ≡ 0 → ⊥) → b ≡ true
passed true b k e n = let z : ◌≡◌ {A = ℕ} 2 0 = e in absurd (omega arith)
passed false true k e n = refl
passed false false k e n = absurd (n e)

module _ (f w : List ℕ) (start : Start f w) where
  pub start-known : all_recognised (text_of f) ≡ true
  unfolding row1
  start-known = passed (missing f) (all_recognised (text_of f)) 4 start.row_1 (λ e. omega arith)

  pub start-order : in_order (text_of f) ≡ true
  unfolding row2
  start-order = passed (missing f) (in_order (text_of f)) 3 start.row_2 (λ e. omega arith)

-- terms whose symbols all have weights have a sum
pub record Summed (ws : List (List ℕ)) : Type 0 where
  pub sum : ℕ
  pub is : total_weight (map term_of ws) ≡ Some sum

record Weighed (v : Option ℕ) : Type 0 where
  much : ℕ
  is : v ≡ Some much

symbol-weighed : (v : Option ℕ) → is_some v ≡ true → Weighed v
symbol-weighed (Some x) e = record { much = x; is = refl }
symbol-weighed None e = absurd (false≢true e)

term-weighed : (t : Option Term) → has_weight t ≡ true → Weighed (term_weight t)
term-weighed (Some t) e = let h = symbol-weighed (weight_of t.symbol.first t.symbol.second) e in record { much = t.count * h.much; is = ap (times t.count) h.is }
term-weighed None e = absurd (false≢true e)

pub weighed-sum : (ws : List (List ℕ)) → all has_weight (map term_of ws) ≡ true → Summed ws
unfolding all total_weight
weighed-sum [] e = record { sum = 0; is = refl }
weighed-sum (w ∷ ws) e =
    let k = and_both (has_weight (term_of w)) (all has_weight (map term_of ws)) e in
    let a = term-weighed (term_of w) k.0 in
    let b = weighed-sum ws k.1 in
    record { sum = a.much + b.sum; is = ap (λ (v : Option ℕ). plus v (total_weight (map term_of ws))) a.is ∙ ap (plus (Some a.much)) b.is }

-- the other terms of the start
pub start-sum : (f w : List ℕ) → Start f w → Summed (other_words (cut (text_of f)))
unfolding all_weighed
start-sum f w start = weighed-sum (other_words (cut (text_of f))) (others-all has_weight (cut (text_of f)) start.symbols)

-- where row 2 is at level 0 and all symbols have weights, row 1 is at level 0: the formula is there, and a symbol with a weight is recognised
first_by : (a b c : Bool) → (cond a (row_of 2 1) (cond b no_alert (row_of 3 0))).level ≡ 0 → c ≡ true → (cond a (row_of 2 1) (cond c no_alert (row_of 4 0))).level ≡ 0
first_by true b c e h = e
first_by false b true e h = refl
first_by false b false e h = absurd (false≢true h)

pub weighed-first : (f : List ℕ) → (row2 f).level ≡ 0 → all_weighed (text_of f) ≡ true → (row1 f).level ≡ 0
unfolding row1 row2 all_weighed all_recognised
weighed-first f e h =
    let s = weighed-sum (cut (text_of f)) h in
    first_by (missing f) (in_order (text_of f)) (all_recognised (text_of f)) e (weighed-terms (terms_of (text_of f)) s.sum s.is)
