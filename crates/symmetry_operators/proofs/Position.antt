-- The count of pairs is a position: the pairs stand by first row, then second, and the last pair looked at is the first without its product.
-- Assumes nothing.
use mathlib.Core.Path.{◌≡◌, refl, sym, ap, subst, ◌∙◌}
use mathlib.Core.Bool.{Bool, true, false, cond, false≢true}
use mathlib.Core.Logic.{inl, inr}
use mathlib.Core.List.{List, [], ◌∷◌, ◌++◌}
use Prim.Native.Nat.{ℕ, zero, suc, ◌+◌, ◌*◌, ◌-◌, ◌<◌, ◌≤◌}
use native.Mathlib.Nat.{suc-mul, zero-mul, zero-add, mul-le-mul_right}
use native.Mathlib.Omega.{arith}
use borrow.Author.Tests.{ltb-true, ltb-false, eqb-false}
use lib.Dec.{ltb}
use lib.IntN.{ℤ}
use lib.ListN.{length, get_or, get_or-append}
use lib.Seq.{get_or-append-add}
use Rattle.text.specs.Run.{all}
use Rattle.symmetry_operators.specs.Operator.{Row, product, identity, same, turns}
use Rattle.symmetry_operators.specs.Lists.{has, distinct, looked, with_each, pairs_with}
use Rattle.symmetry_operators.specs.Check.{operator_rows, closes, pairs, closing, judged, list_shaped, checked, outcome, Outcome}
use Rattle.symmetry_operators.specs.Wording.{operator_row, Earlier, ProductMissing, FirstMissing, Counted}
use Rattle.symmetry_operators.proofs.Pigeon.{by_cases}
use Rattle.symmetry_operators.proofs.Runs.{run, run-le, all-run, looked-run, first-fails, before-holds, length-with, length_pairs}
use Rattle.symmetry_operators.proofs.Words.{has-row, row_has, in-at}

module _ {A : Type 0} (d : A) where
  with_at : (a : A) (m : List A) (j : ℕ) → j < length m → get_or (with_each a m) j (d, d) ≡ (a, get_or m j d)
  with_at a [] j h = absurd (omega arith)
  with_at a (b ∷ m) zero h = refl
  with_at a (b ∷ m) (suc j) h = with_at a m j (omega arith)

  -- "Pairs run by first row, then second": of m rows, pair i m + j is that of rows i and j
  pub pair-at : (l m : List A) (i j : ℕ) → i < length l → j < length m → get_or (pairs_with l m) (i * length m + j) (d, d) ≡ (get_or l i d, get_or m j d)
  pair-at [] m i j h k = absurd (omega arith)
  pair-at (a ∷ l) m zero j h k =
      let e : 0 * length m + j ≡ j = ap (λ (n : ℕ). n + j) (zero-mul (length m)) ∙ zero-add j in
      let s = length-with a m in
      ap (λ (n : ℕ). get_or (with_each a m ++ pairs_with l m) n (d, d)) e ∙ get_or-append (with_each a m) (pairs_with l m) (d, d) j (omega arith)
      ∙ with_at a m j k
  pair-at (a ∷ l) m (suc i) j h k =
      let s = length-with a m in
      let e : suc i * length m + j ≡ length (with_each a m) + (i * length m + j) = ap (λ (n : ℕ). n + j) (suc-mul i (length m)) ∙ omega arith in
      ap (λ (n : ℕ). get_or (with_each a m ++ pairs_with l m) n (d, d)) e ∙ get_or-append-add (with_each a m) (pairs_with l m) (i * length m + j) (d, d)
      ∙ pair-at l m i j (omega arith) k

-- a position among a times b, by rows of b
record Split (a b p : ℕ) : Type 0 where
  pub first : ℕ
  pub second : ℕ
  pub first_within : first < a
  pub second_within : second < b
  pub is : p ≡ first * b + second

split : (a b p : ℕ) → p < a * b → Split a b p
split zero b p h = absurd (omega (arith, zero-mul b))
split (suc a) b p h = by_cases (ltb p b)
    (λ t. record {
      first = 0;
      second = p;
      first_within = omega arith;
      second_within = ltb-true p b t;
      is = sym
          (ap (λ (n : ℕ). n + p) (zero-mul b) ∙ zero-add p);
    })
    (λ t. let k = ltb-false p b t in let e = suc-mul a b in let s = split a b (p - b) (omega arith) in
    let q = s.is in let w = s.first_within in let g = suc-mul s.first b in
    record { first = suc s.first; second = s.second; first_within = omega arith; second_within = s.second_within; is = omega arith })

module _ (l : List (Row ℤ)) where
  abbrev size : ℕ
  size = length l

  closes_at : (i j : ℕ) → i < size → j < size → {t : Bool} → closes l (get_or (pairs l) (i * size + j) (identity, identity)) ≡ t
      → has same l (product (operator_row l i) (operator_row l j)) ≡ t
  closes_at i j h k e = sym (ap (closes l) (pair-at identity l l i j h k)) ∙ e

  earlier : (i j k m : ℕ) → j < size → Earlier i j k m → i * size + j < k * size + m
  earlier i j k m h (inl e) = let g = mul-le-mul_right size e in let q = suc-mul i size in omega arith
  earlier i j k m h (inr e) = let g : i * size ≡ k * size = ap (λ (n : ℕ). n * size) e.0 in let f = e.1 in omega arith

  pub first-missing : all (closes l) (pairs l) ≡ false → FirstMissing l (looked (closes l) (pairs l))
  first-missing e =
      let d : Row ℤ × Row ℤ = (identity, identity) in
      let p = run (closes l) (pairs l) in
      let short : p < size * size = within in
      let s = split size size p short in
      record {
        first = s.first;
        second = s.second;
        first_within = s.first_within;
        second_within = s.second_within;
        counted = looked-run (closes l) (pairs l) ∙ ap (λ (t : Bool). cond t (length (pairs l)) (suc p)) e ∙ ap suc s.is;
        missing = λ i. false≢true (sym (closes_at s.first s.second s.first_within s.second_within
            (ap (λ (n : ℕ). closes l (get_or (pairs l) n d)) (sym s.is) ∙ first-fails (closes l) (pairs l) d e)) ∙ row_has l _ i);
        before = λ i j h k b. has-row l _
            (closes_at i j h k (before-holds (closes l) (pairs l) d (i * size + j)
            (subst (λ (n : ℕ). i * size + j < n) (sym s.is) (earlier i j s.first s.second k b))));
      }
    where
      below : {p n m : ℕ} → p ≤ n → n ≡ m → (p ≡ n → ⊥) → p < m
      below h e f = omega arith

      within : run (closes l) (pairs l) < size * size
      within =
          let a = run-le (closes l) (pairs l) in
          let b = length_pairs l l in
          let c = eqb-false (run (closes l) (pairs l)) (length (pairs l)) (sym (all-run (closes l) (pairs l)) ∙ e) in
          below a b c

  pub product-missing : all (closes l) (pairs l) ≡ false → ProductMissing l
  product-missing e =
      let m = first-missing e in
      record {
        first = operator_row l m.first;
        second = operator_row l m.second;
        first_in = in-at l m.first identity m.first_within;
        second_in = in-at l m.second identity m.second_within;
        missing = m.missing;
      }

  all-counted : all (closes l) (pairs l) ≡ true → looked (closes l) (pairs l) ≡ size * size
  all-counted e = looked-run (closes l) (pairs l) ∙ ap (λ (t : Bool). cond t (length (pairs l)) (suc (run (closes l) (pairs l)))) e ∙ length_pairs l l

  closing-counted : Counted l (closing l)
  unfolding closing
  closing-counted = by_cases (all (closes l) (pairs l))
      (λ e. let a : ◌≡◌ {A = ℕ} (cond (all (closes l) (pairs l)) 0 17) 0 = ap (λ (t : Bool). cond t 0 17) e in
      record { refused = λ h k. absurd (omega arith); missing = λ h. absurd (omega arith); accepted = λ h. all-counted e })
      (λ e. let a : ◌≡◌ {A = ℕ} (cond (all (closes l) (pairs l)) 0 17) 17 = ap (λ (t : Bool). cond t 0 17) e in
      record { refused = λ h k. absurd (omega arith); missing = λ h. first-missing e; accepted = λ h. absurd (omega arith) })

  -- a refusal before the pairs are looked at
  refused-counted : (t : Bool) {o : Outcome} (k : ℕ) → 13 ≤ k → k ≤ 16 → Counted l o → Counted l (cond t o (outcome k 0))
  refused-counted true k h g c = c
  refused-counted false k h g c = record { refused = λ i j. refl; missing = λ i. absurd (omega arith); accepted = λ i. absurd (omega arith) }

-- "The check reports the number of pairs looked at up to and including the first without its product, or all pairs."
pub count-position : (n : List ℤ) → Counted (operator_rows n) (checked n)
unfolding checked judged
count-position n =
    let l = operator_rows n in
    refused-counted l (list_shaped n) 13 (omega arith) (omega arith) (refused-counted l (all turns l) 14 (omega arith) (omega arith)
    (refused-counted l (has same l identity) 15 (omega arith) (omega arith)
    (refused-counted l (distinct same l) 16 (omega arith) (omega arith) (closing-counted l))))
