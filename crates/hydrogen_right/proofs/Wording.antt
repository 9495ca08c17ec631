-- A count passes the tests exactly when it is right in the document's words, and there is one text for it.
-- Assumes nothing.
use Prim.Native.Nat.{ℕ, ◌≤◌}
use mathlib.Core.Path.{◌≡◌, refl, sym, ap, subst, ◌∙◌}
use mathlib.Core.Bool.{true, false, false≢true}
use mathlib.Core.List.{List, []}
use borrow.Author.Tests.{leb-true, le-leb, eqb-true}
use lib.Dec.{leb, eqb}
use lib.ListN.{length}
use Rattle.text.specs.Run.{all, kind_at}
use Rattle.text.proofs.Bools.{and_both}
use Rattle.line_quotes.specs.Quoted.{text_of}
use Rattle.formula_terms.specs.Term.{term_of}
use Rattle.formula_terms.specs.Terms.{cut}
use Rattle.formula_terms.specs.Grammar.{joined}
use Rattle.formula_symbols.specs.Symbols.{has_carbon}
use Rattle.formula_sum.specs.Recognised.{all_recognised}
use Rattle.rows_formula.specs.FormulaRows.{row1, row2}
use Rattle.rows_weight.specs.WeightRows.{row4}
use Rattle.hydrogen_text.specs.Hydrogens.{most_hydrogens, most_text_bytes, hydrogen_words, other_words, in_quotes}
use Rattle.hydrogen_text.specs.NewText.{new_words, new_text}
use Rattle.hydrogen_text.proofs.Words.{new-cut, new_others, new-hydrogens}
use Rattle.hydrogen_text.proofs.Unique.{one-text}
use Rattle.hydrogen_right.specs.Right.{Right}
use Rattle.hydrogen_right.specs.Stages.{rows_pass, is_right}
use Rattle.hydrogen_right.proofs.Typed.{row-1-is, row-2-is}

-- the empty text has an empty term, which is ill formed
empty-unknown : all_recognised [] ≡ false
unfolding all_recognised cut term_of kind_at all
empty-unknown = refl

-- a new text whose terms are recognised has a term
pub known-left : (n : ℕ) (s : List ℕ) → all_recognised (new_text n s) ≡ true → new_words n s ≡ [] → ⊥
unfolding new_text joined
known-left n s r e = false≢true (sym empty-unknown ∙ ap (λ (ws : List (List ℕ)). all_recognised (joined ws)) (sym e) ∙ r)

-- the tests of a text, one by one
pub record RowsPass (v w : List ℕ) : Type 0 where
  pub row_1 : (row1 v).level ≡ 0
  pub row_2 : (row2 v).level ≡ 0
  pub row_4 : (row4 v w).level ≡ 0

module _ (v w : List ℕ) where
  pub rows-pass-is : rows_pass v w ≡ true → RowsPass v w
  unfolding rows_pass
  rows-pass-is e =
      let a = and_both (eqb (row1 v).level 0) _ e in
      let b = and_both (eqb (row2 v).level 0) _ a.1 in
      record { row_1 = eqb-true _ _ a.0; row_2 = eqb-true _ _ b.0; row_4 = eqb-true _ _ b.1 }

  pub is-rows-pass : RowsPass v w → rows_pass v w ≡ true
  unfolding rows_pass
  is-rows-pass h = rw (h.row_1, h.row_2, h.row_4)

module _ (f w : List ℕ) (n : ℕ) where
  abbrev new : List ℕ
  new = new_text n (text_of f)

  -- what the stages test
  pub record Tested : Type 0 where
    pub count : n ≤ most_hydrogens
    pub short : length new ≤ most_text_bytes
    pub rows : RowsPass (in_quotes new) w

  pub tested : is_right f w n ≡ true → Tested
  unfolding is_right
  tested e =
      let a = and_both (leb n most_hydrogens) _ e in
      let b = and_both (leb (length new) most_text_bytes) _ a.1 in
      record { count = leb-true _ _ a.0; short = leb-true _ _ b.0; rows = rows-pass-is (in_quotes new) w b.1 }

  pub is-tested : Tested → is_right f w n ≡ true
  unfolding is_right
  is-tested h = rw (le-leb _ _ h.count, le-leb _ _ h.short, is-rows-pass (in_quotes new) w h.rows)

  -- a count that passes the tests is right
  pub right_is : is_right f w n ≡ true → Right f w n
  right_is e =
      let h = tested e in
      let k = row-1-is new h.rows.row_1 in
      let t = new-cut n (text_of f) h.count (known-left n (text_of f) k.1) in
      record {
        count = h.count;
        text = new;
        hydrogens = ap hydrogen_words t ∙ new-hydrogens (has_carbon (text_of f)) n (cut (text_of f)) h.count;
        others = ap other_words t ∙ new_others (has_carbon (text_of f)) n (cut (text_of f)) h.count;
        short = h.short;
        row_1 = h.rows.row_1;
        row_2 = h.rows.row_2;
        row_4 = h.rows.row_4;
      }

  -- its text is the one with the other terms in their order and n hydrogens that row 2 allows
  pub right-text : (h : Right f w n) → h.text ≡ new
  right-text h =
      let k = row-1-is h.text h.row_1 in
      one-text (text_of f) h.text n k.1 (row-2-is h.text k.0 h.row_2) h.others h.hydrogens

  -- a right count passes the tests
  pub is-right : Right f w n → is_right f w n ≡ true
  is-right h =
      let e = right-text h in
      is-tested (record {
        count = h.count;
        short = subst (λ (t : List ℕ). length t ≤ most_text_bytes) e h.short;
        rows = subst (λ (t : List ℕ). RowsPass (in_quotes t) w) e (record { row_1 = h.row_1; row_2 = h.row_2; row_4 = h.row_4 });
      })
