-- What a text can stand for: the total of an element is at most 9999 times 99 to the fourth for each byte. So within 4,096 bytes, and no line
-- has more, every total is below 10 ^ 16 (`total-small`), far below what a machine number holds.
-- Assumes nothing.
use Rattle.std.specs.Prelude.{Option, Some, None}
use Prim.Native.Nat.{ℕ, zero, suc, ◌+◌, ◌-◌, ◌*◌, ◌^◌, ◌≤◌, ◌<◌}
use mathlib.Core.Path.{◌≡◌, refl, subst}
use mathlib.Core.Bool.{Bool, true, false, cond, false≢true}
use mathlib.Core.List.{List, [], ◌∷◌, ◌++◌}
use native.Mathlib.Omega.{arith}
use native.Mathlib.Nat.{add-mul, mul-le-mul, mul-le-mul_right, mul_left_comm}
use native.Mathlib.Numerals.{sub-one}
use lib.ListN.{length, length-append}
use Rattle.text.specs.Run.{kind_at}
use Rattle.formula_terms.specs.Term.{most_count, count_of, term_of}
use Rattle.formula_terms.proofs.Wording.{count-of}
use Rattle.formula_sum.specs.Recognised.{is_recognised}
use Rattle.formula_sum.specs.Sum.{SmallCount, most_summed}
use Rattle.formula_sum.proofs.Sums.{term-small}
use Rattle.formula_elements.specs.Elements.{element_of}
use Rattle.formula_terms.specs.declared.term.Term.{Term}
use Rattle.formula_moiety.specs.Amounts.{is_place, amount}
use Rattle.formula_moiety.specs.Grammar.{most_times, Part, Moiety, shown_part, shown, shown_all, most_deep, IsTimes, IsPart, IsMoiety, is_term, is_group, is_one, is_more, AreMoieties, none, next, IsText}
use Rattle.formula_moiety.specs.Totals.{count_number, total_part, total, total_all, most}
use Rattle.formula_moiety.proofs.Leaves.{leaf-read}

-- a term has at most 9999 of an element
pub amount-small : (k : ℕ) (t : Option Term) → SmallCount t → amount k t ≤ most_count
amount-small k (Some t) h = go (is_place k (element_of t.symbol.first t.symbol.second))
  where
    go : (x : Bool) → cond x t.count 0 ≤ most_count
    go true = h
    go false = omega arith
amount-small k None h = omega arith

few-times : (c : List ℕ) → IsTimes c → count_number (count_of c) ≤ most_times
few-times c t = rw (count-of t.is) t.few

not-empty : (w : List ℕ) → is_recognised (term_of w) ≡ true → 1 ≤ length w
unfolding term_of kind_at
not-empty [] e = absurd (false≢true e)
not-empty (b ∷ w) e = omega arith

most-least : (d : ℕ) → most_count ≤ most d
unfolding most
most-least zero = omega arith
most-least (suc d) = let h = most-least d in omega arith

-- inside a bracket a byte stands for no more than outside
pub most-up : (d : ℕ) → (d ≡ 0 → ⊥) → most (d - 1) ≤ most d
unfolding most
most-up zero n = absurd (n refl)
most-up (suc d) n = rw (sub-one (suc d)) (omega arith)

mutual
  unfolding shown_part total_part most

  pub part-most : {d : ℕ} {p : Part} → IsPart d p → (k : ℕ) → total_part p k ≤ length (shown_part p) * most d
  part-most {d} (is_term {w = w} e) k =
      let a = amount-small k (term_of w) (term-small w) in
      let m = mul-le-mul (not-empty w (leaf-read w e)) (most-least d) in
      omega (arith, a, m)
  part-most (is_group {d = d} {m = m} {c = c} is e) k =
      let a = mul-le-mul (few-times c e) (moiety-most is k) in
      let b = mul_left_comm most_times (length (shown m)) (most d) in
      let l : length (shown m) ≤ length (40 ∷ (shown m ++ (41 ∷ c))) = omega (arith, length-append (shown m) (41 ∷ c)) in
      let n = mul-le-mul_right (most_times * most d) l in
      omega (arith, a, b, n)

  pub moiety-most : {d : ℕ} {m : Moiety} → IsMoiety d m → (k : ℕ) → total m k ≤ length (shown m) * most d
  moiety-most (is_one is) k = part-most is k
  moiety-most (is_more {d = d} {p = p} {m = m} is ms) k =
      let a = part-most is k in
      let b = moiety-most ms k in
      let l : length (shown_part p) + length (shown m) ≤ length (shown_part p ++ (32 ∷ shown m)) = omega (arith, length-append (shown_part p) (32 ∷ shown m)) in
      let n = mul-le-mul_right (most d) l in
      omega (arith, a, b, n, add-mul (length (shown_part p)) (length (shown m)) (most d))

pub all_most : {m : Moiety} {ms : List Moiety} → AreMoieties (m ∷ ms) → (k : ℕ) → total_all m ms k ≤ length (shown_all m ms) * most most_deep
unfolding shown_all total_all
all_most (next is none) k = moiety-most is k
all_most {m} (next is (next {m = n} {ms = ms} i js)) k =
    let a = moiety-most is k in
    let b = all_most (next i js) k in
    let l : length (shown m) + length (shown_all n ms) ≤ length (shown m ++ (44 ∷ (32 ∷ shown_all n ms))) = omega (arith, length-append (shown m) (44 ∷ (32 ∷ shown_all n ms))) in
    let c = mul-le-mul_right (most most_deep) l in
    omega (arith, a, b, c, add-mul (length (shown m)) (length (shown_all n ms)) (most most_deep))

pub total-small : (t : List ℕ) (m : Moiety) (ms : List Moiety) → IsText t m ms → length t ≤ most_summed → (k : ℕ) → total_all m ms k < 10 ^ 16
unfolding most
total-small t m ms h l k =
    let a = all_most h.0 k in
    let b : length (shown_all m ms) ≤ most_summed = subst (λ (x : List ℕ). length x ≤ most_summed) h.1 l in
    omega arith
