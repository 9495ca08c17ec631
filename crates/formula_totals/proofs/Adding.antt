-- Counting a formula's text: the terms of the words passed are counted, and no counter wraps.
-- Assumes nothing.
use Rattle.std.specs.Prelude.{Some, None}
use Prim.Native.Nat.{ℕ, ◌+◌, ◌*◌, ◌≤◌}
use mathlib.Core.Path.{◌≡◌, refl, sym, ap, ◌∙◌}
use mathlib.Core.Bool.{Bool, false, ◌&&◌, false≢true}
use mathlib.Core.List.{List, [], ◌∷◌, map}
use native.Mathlib.Omega.{arith}
use native.Mathlib.Nat.{add_assoc, add-zero, mul-le-mul_right}
use lib.ListN.{length, get_or}
use Rattle.text.specs.Run.{all}
use Rattle.formula_terms.specs.Term.{most_count, term_of}
use Rattle.formula_terms.proofs.Steps.{cut-few}
use Rattle.formula_sum.specs.Recognised.{is_recognised, all_recognised}
use Rattle.formula_sum.proofs.Sums.{term-small}
use Rattle.formula_terms.specs.Terms.{cut}
use Rattle.formula_moiety.specs.Amounts.{amount, amounts, formula_total}
use Rattle.formula_moiety.proofs.Bounds.{amount-small}
use Rattle.formula_totals.specs.Counters.{TermLeft, AllBelow}
use Rattle.formula_totals.specs.Counting.{TermRoom, FormulaLeft}

-- the terms of the words passed are counted, and those of the words left are not
pub record Counting (s before now : List ℕ) (left : List (List ℕ)) : Type 0 where
  pub long : length now ≡ length before
  pub all : all_recognised s ≡ all is_recognised (map term_of left)
  pub adds : (k : ℕ) → get_or before k 0 + formula_total s k ≡ get_or now k 0 + amounts (map term_of left) k
  pub small : (k : ℕ) → get_or now k 0 + length left * most_count ≤ get_or before k 0 + (length s + 1) * most_count

module _ (s before : List ℕ) where
  pub counting-none : Counting s before before (cut s)
  unfolding all_recognised
  counting-none =
      let m = mul-le-mul_right most_count (cut-few s) in
      record { long = refl; all = refl; adds = λ k. refl; small = λ k. omega arith }

  module _ {now : List ℕ} {left : List (List ℕ)} (h : Counting s before now left) where
    pub counting-below : TermRoom s before → AllBelow now
    counting-below r = record { long = h.long ∙ r.long; below = λ k. omega (arith, h.small k, r.room k) }

  module _ {now w : List ℕ} {ws : List (List ℕ)} (h : Counting s before now (w ∷ ws)) where
    pub counting_more : {after : List ℕ} → length after ≡ length now → TermLeft (term_of w) now after (Some tt) → Counting s before after ws
    unfolding amounts all
    counting_more {after} long l =
        record {
          long = long ∙ h.long;
          all = h.all ∙ ap (λ (b : Bool). b && all is_recognised (map term_of ws)) l.0;
          adds = λ k.
              h.adds k
              ∙ sym (add_assoc (get_or now k 0) (amount k (term_of w)) (amounts (map term_of ws) k))
              ∙ ap (λ (x : ℕ). x + amounts (map term_of ws) k) (sym (l.1 k));
          small = λ k. let a = amount-small k (term_of w) (term-small w) in omega (arith, h.small k, l.1 k, a);
        }

    pub counting-fails : (after : List ℕ) → is_recognised (term_of w) ≡ false → FormulaLeft s before after None
    unfolding all
    counting-fails after e =
        record { all = sym (h.all ∙ ap (λ (b : Bool). b && all is_recognised (map term_of ws)) e); adds = λ q. absurd (false≢true q) }

  pub counting-end : {now : List ℕ} → Counting s before now [] → FormulaLeft s before now (Some tt)
  unfolding amounts all
  counting-end {now} h = record { all = sym h.all; adds = λ q k. sym (h.adds k ∙ add-zero (get_or now k 0)) }
