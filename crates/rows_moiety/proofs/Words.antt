-- Row 25 is the wording of document 02, No. 12, for every two values that a line can hold: what the row is, the words say (`row-25-words`), and
-- what the words say, the row is (`row-25-only`). Assumes nothing.
use Prim.Native.Nat.{ℕ, ◌-◌, ◌≤◌}
use mathlib.Core.Path.{◌≡◌, refl, sym, ap, subst, ◌∙◌}
use mathlib.Core.Bool.{Bool, true, false, cond}
use mathlib.Core.List.{List}
use native.Mathlib.Omega.{arith}
use lib.ListN.{length, drop, length-take, length-drop}
use Rattle.line_items.specs.Typed.{line_most}
use Rattle.line_quotes.specs.Quoted.{inner, is_quoted, text_of}
use Rattle.rows.specs.Rows.{row_of, no_alert, missing}
use Rattle.rows.specs.declared.Row.{Row}
use Rattle.rows_formula.specs.FormulaRows.{row1}
use Rattle.formula_sum.specs.Recognised.{all_recognised}
use Rattle.formula_sum.specs.Sum.{most_summed}
use Rattle.formula_totals.specs.Compare.{compared_of}
use Rattle.formula_totals.specs.Wording.{FoundAs, formula_unread, moieties_unread, some_differs, each_same}
use Rattle.formula_totals.specs.declared.Compared.{Compared}
use Rattle.formula_totals.proofs.Words.{found, found-only}
use Rattle.rows_moiety.specs.MoietyRow.{totals_row, row25}
use Rattle.rows_moiety.specs.Wording.{AtA, BothThere, Row25, formula_missing, moiety_missing, moiety_unread, total_differs, totals_same}
use Rattle.rows_moiety.specs.Wording as W
use Rattle.rows_moiety.proofs.RowCases.{no-formula, no-moiety, compared}

-- a value's text is no longer than the value
text-short : (v : List ℕ) → length (text_of v) ≤ length v
unfolding text_of
text-short v = go (is_quoted v)
  where
    go : (b : Bool) → length (cond b (inner v) v) ≤ length v
    go true = omega (arith, length-take (length v - 2) (drop 1 v), length-drop 1 v)
    go false = omega arith

line-short : (v : List ℕ) → length v ≤ line_most → length (text_of v) ≤ most_summed
line-short v l = omega (arith, text-short v)

-- row 1 is at A exactly when a term is ill formed or not recognised
module _ (formula : List ℕ) (p : missing formula ≡ false) where
  at_a : all_recognised (text_of formula) ≡ false → AtA formula
  unfolding row1
  at_a e = simp (p, e)

  levels-differ : no_alert ≡ row_of 4 0 → ⊥
  levels-differ e = let z : ◌≡◌ {A = ℕ} 0 4 = ap (λ (r : Row). r.level) e in omega arith

  not-at-a : all_recognised (text_of formula) ≡ true → AtA formula → ⊥
  unfolding row1
  not-at-a e q = levels-differ (sym (simp (p, e)) ∙ q)

  is-at-a : AtA formula → all_recognised (text_of formula) ≡ false
  is-at-a q = go (all_recognised (text_of formula)) refl
    where
      go : (b : Bool) → all_recognised (text_of formula) ≡ b → b ≡ false
      go true e = absurd (not-at-a e q)
      go false e = refl

  is-not-at-a : (AtA formula → ⊥) → all_recognised (text_of formula) ≡ true
  is-not-at-a n = go (all_recognised (text_of formula)) refl
    where
      go : (b : Bool) → all_recognised (text_of formula) ≡ b → b ≡ true
      go true e = refl
      go false e = absurd (n (at_a e))

module _ (formula moiety : List ℕ) (lf : length formula ≤ line_most) (lm : length moiety ≤ line_most) where
  found-row : BothThere formula moiety → (c : Compared) → FoundAs (text_of moiety) (text_of formula) c → Row25 formula moiety (totals_row c)
  found-row h c (formula_unread e) = W.formula_unread h (at_a formula h.0 e)
  found-row h c (moieties_unread n) = moiety_unread h n
  found-row h c (some_differs m ms e i d) = total_differs (record { both = h; formula_read = not-at-a formula h.0 e; moiety_read = i }) d
  found-row h c (each_same m ms e i s) = totals_same (record { both = h; formula_read = not-at-a formula h.0 e; moiety_read = i }) s

  pub row-25-words : Row25 formula moiety (row25 formula moiety)
  row-25-words = go (missing formula) refl (missing moiety) refl
    where
      go : (a : Bool) → missing formula ≡ a → (b : Bool) → missing moiety ≡ b → Row25 formula moiety (row25 formula moiety)
      go true p b q = subst (Row25 formula moiety) (sym (no-formula formula moiety p)) (formula_missing p)
      go false p true q = subst (Row25 formula moiety) (sym (no-moiety formula moiety p q)) (moiety_missing q)
      go false p false q =
          subst (Row25 formula moiety) (sym (compared formula moiety p q))
          (found-row (p, q) (compared_of (text_of moiety) (text_of formula)) (found (text_of moiety) (text_of formula) (line-short moiety lm) (line-short formula lf)))

  row-found : BothThere formula moiety → (c : Compared) → FoundAs (text_of moiety) (text_of formula) c → row25 formula moiety ≡ totals_row c
  row-found h c w = compared formula moiety h.0 h.1 ∙ ap totals_row (found-only (text_of moiety) (text_of formula) (line-short moiety lm) (line-short formula lf) c w)

  missing-moiety : missing moiety ≡ true → row25 formula moiety ≡ row_of 0 1
  missing-moiety q = go (missing formula) refl
    where
      go : (a : Bool) → missing formula ≡ a → row25 formula moiety ≡ row_of 0 1
      go true p = no-formula formula moiety p
      go false p = no-moiety formula moiety p q

  pub row-25-only : {r : Row} → Row25 formula moiety r → row25 formula moiety ≡ r
  row-25-only (formula_missing p) = no-formula formula moiety p
  row-25-only (moiety_missing q) = missing-moiety q
  row-25-only (W.formula_unread h a) = row-found h _ (formula_unread (is-at-a formula h.0 a))
  row-25-only (moiety_unread h n) = row-found h _ (moieties_unread n)
  row-25-only (total_differs w d) = row-found w.both _ (some_differs _ _ (is-not-at-a formula w.both.0 w.formula_read) w.moiety_read d)
  row-25-only (totals_same w s) = row-found w.both _ (each_same _ _ (is-not-at-a formula w.both.0 w.formula_read) w.moiety_read s)
