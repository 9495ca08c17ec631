-- The smallest right count in closed form. With b thousandths of other terms and a weight of g millionths row 4 is at level 0 where
-- 99000 * (b + 1008 * n) ≤ 100 * g ≤ 101000 * (b + 1008 * n). From the first n with 100 * g ≤ 101000 * (b + 1008 * n) on, a larger count only makes the other
-- bound and the length worse: so that count is right if any is. Assumes nothing.
use Rattle.std.specs.Prelude.{Some}
use Prim.Native.Nat.{ℕ, ◌+◌, ◌-◌, ◌*◌, ◌/◌, ◌≤◌, ◌<◌}
use mathlib.Core.Path.{◌≡◌, refl, sym, ap, ◌∙◌}
use mathlib.Core.Bool.{Bool, true, false}
use mathlib.Core.Logic.{◌⊎◌, inl, inr}
use mathlib.Core.List.{List, [], map}
use native.Mathlib.Omega.{arith}
use borrow.Author.Tests.{leb-true, leb-false, le-leb, eqb-true, eqb-false}
use lib.Dec.{leb, eqb}
use lib.IntN.{pos}
use lib.ListN.{length}
use Rattle.text.proofs.Bools.{not-holds}
use Rattle.number_decimal.specs.Reading.{reading_of}
use Rattle.line_quotes.specs.Quoted.{text_of}
use Rattle.formula_terms.specs.Term.{term_of}
use Rattle.formula_terms.specs.Terms.{cut, terms_of}
use Rattle.formula_sum.specs.Sum.{most_summed, total_weight, sum_of}
use Rattle.hydrogen_text.specs.Hydrogens.{most_hydrogens, most_text_bytes, other_words}
use Rattle.hydrogen_text.specs.NewText.{with_hydrogens, new_words, new_text}
use Rattle.hydrogen_text.proofs.Rows.{new-rows}
use Rattle.hydrogen_text.proofs.Bytes.{words_left, longer}
use Rattle.hydrogen_right.specs.Right.{Start}
use Rattle.hydrogen_right.specs.Stages.{is_right}
use Rattle.hydrogen_right.proofs.Typed.{row-1-is, row-1-of, row-2-of, known-plain}
use Rattle.hydrogen_right.proofs.Weights.{Weighs, row-4-is, row-4-of}
use Rattle.hydrogen_right.proofs.Wording.{known-left, tested, is-tested}
use Rattle.hydrogen_right.proofs.Starts.{start-known, start-order}

-- no smaller count is right, and this one is if any is
pub record Smallest (f w : List ℕ) (h : ℕ) : Type 0 where
  pub below : (j : ℕ) → j < h → is_right f w j ≡ false
  pub any : (j : ℕ) → is_right f w j ≡ true → is_right f w h ≡ true

-- b is the sum of the other terms, if their text is not too long
abbrev pub Base : List ℕ → ℕ → Type 0
Base s b = length (new_text 0 s) ≤ most_text_bytes → total_weight (map term_of (other_words (cut s))) ≡ Some b

-- g is the given weight, if that is a number and not below 0
abbrev pub Given : List ℕ → ℕ → Type 0
Given w g = (z : ℕ) → reading_of w ≡ Some (pos z) → z ≡ g

pos-same : (x y : ℕ) → Some (pos x) ≡ Some (pos y) → x ≡ y
pos-same x y e = cc

sum_same : (x y : ℕ) → Some x ≡ Some y → x ≡ y
sum_same x y e = cc

two_ways : (m n : ℕ) → (m ≤ n) ⊎ (n < m)
two_ways m n = go (leb m n) refl
  where
    go : (t : Bool) → leb m n ≡ t → (m ≤ n) ⊎ (n < m)
    go true e = inl (leb-true m n e)
    go false e = inr (leb-false m n e)

pub short-sum : (t : List ℕ) (x : ℕ) → length t ≤ most_text_bytes → total_weight (terms_of t) ≡ Some x → sum_of t ≡ Some x
unfolding sum_of
short-sum t x l e = rw (le-leb (length t) most_summed (omega arith), e)

module _ (f w : List ℕ) (start : Start f w) (b g : ℕ) (base : Base (text_of f) b) (given : Given w g) where
  abbrev s : List ℕ
  s = text_of f

  -- what is known of a right count
  record Facts (n : ℕ) : Type 0 where
    count : n ≤ most_hydrogens
    short : length (new_text n s) ≤ most_text_bytes
    left : new_words n s ≡ [] → ⊥
    read : reading_of w ≡ Some (pos g)
    there : Weighs (new_text n s) w
    sum : total_weight (map term_of (other_words (cut s))) ≡ Some b
    low : 99000 * (b + 1008 * n) ≤ 100 * g
    high : 100 * g ≤ 101000 * (b + 1008 * n)

  facts : (n : ℕ) → is_right f w n ≡ true → Facts n
  facts n e =
      let h = tested f w n e in
      let k = row-1-is (new_text n s) h.rows.row_1 in
      let left = known-left n s k.1 in
      let weighs = row-4-is (new_text n s) w k.0 h.rows.row_4 in
      let z = given weighs.given weighs.read in
      let sum = base (omega (arith, longer 0 n s (omega arith), h.short)) in
      let rows = new-rows s b n h.count left (start-known f w start) (start-order f w start) sum in
      let same = sum_same weighs.sum (b + 1008 * n) (sym weighs.summed ∙ short-sum (new_text n s) (b + 1008 * n) h.short rows.sum) in
      record {
        count = h.count;
        short = h.short;
        left = left;
        read = weighs.read ∙ ap (λ (x : ℕ). Some (pos x)) z;
        there = weighs;
        sum = sum;
        low = omega (arith, weighs.low, same, z);
        high = omega (arith, weighs.high, same, z);
      }

  module _ (h : ℕ) (below : (j : ℕ) → j < h → 101000 * (b + 1008 * j) < 100 * g) (reach : 100 * g ≤ 101000 * (b + 1008 * h)) where
    -- with no other terms and a count of 0 the weight would be 0
    left_over : (j : ℕ) → h < j → Facts j → new_words h s ≡ [] → ⊥
    unfolding with_hydrogens total_weight
    left_over j l k e = go (eqb h 0) refl
      where
        go : (x : Bool) → eqb h 0 ≡ x → ⊥
        go false q = words_left h s (eqb-false h 0 q) e
        go true q =
            let z = eqb-true h 0 q in
            let none : other_words (cut s) ≡ [] = sym (rw q) ∙ e in
            let nothing = sum_same 0 b (sym (ap (λ (ws : List (List ℕ)). total_weight (map term_of ws)) none) ∙ k.sum) in
            omega (arith, reach, k.low)

    from : (j : ℕ) → h < j → Facts j → is_right f w h ≡ true
    from j l k =
        let left = left_over j l k in
        let short : length (new_text h s) ≤ most_text_bytes = omega (arith, longer h j s (omega arith), k.short) in
        let count : h ≤ most_hydrogens = omega (arith, k.count) in
        let rows = new-rows s b h count left (start-known f w start) (start-order f w start) k.sum in
        let plain = known-plain (new_text h s) rows.row_1 in
        let weighs : Weighs (new_text h s) w
        = record {
          there = k.there.there;
          given = g;
          read = k.read;
          sum = b + 1008 * h;
          summed = short-sum (new_text h s) (b + 1008 * h) short rows.sum;
          low = omega (arith, k.low);
          high = reach;
        } in
        is-tested f w h (record {
          count = count;
          short = short;
          rows = record { row_1 = row-1-of (new_text h s) plain rows.row_1; row_2 = row-2-of (new_text h s) plain rows.row_2; row_4 = row-4-of (new_text h s) w plain weighs };
        })

    pub smallest-by : Smallest f w h
    smallest-by = record {
      below = λ j l. not-holds (is_right f w j) (λ e. omega (arith, below j l, (facts j e).high));
      any = λ j e. go j e (two_ways h j) (eqb h j) refl;
    }
      where
        go : (j : ℕ) → is_right f w j ≡ true → (h ≤ j) ⊎ (j < h) → (x : Bool) → eqb h j ≡ x → is_right f w h ≡ true
        go j e d true q = ap (is_right f w) (eqb-true h j q) ∙ e
        go j e (inl l) false q = let n = eqb-false h j q in from j (omega (arith, n)) (facts j e)
        go j e (inr l) false q = absurd (omega (arith, below j l, (facts j e).high))

  -- what is lacking, divided by what one hydrogen adds, rounded up
  pub smallest : (lack : ℕ) → lack ≡ 100 * g - 101000 * b → Smallest f w ((lack + 101807999) / 101808000)
  smallest lack e = smallest-by ((lack + 101807999) / 101808000) (λ j l. omega arith) (omega arith)
