-- The numbers of an operator stored one after the other, and those of the rows filled in so far.
-- Assumes nothing.
use mathlib.Core.Path.{◌≡◌, refl, sym, ap, ◌∙◌}
use mathlib.Core.List.{List, [], ◌∷◌, ◌++◌, append_assoc, append-nil}
use Prim.Native.Nat.{ℕ, zero, suc, ◌+◌, ◌*◌, ◌<◌, ◌≤◌}
use native.Mathlib.Omega.{arith}
use native.Mathlib.Nat.{le_refl}
use borrow.Author.Tests.{lt-ltb, le-leb, lt-leb, leb-true, leb-false}
use lib.Dec.{leb}
use lib.IntN.{ℤ, pos}
use Rattle.text.proofs.Tables.{tabulate}
use lib.ListN.{length, get_or, take, drop, length-append, length-replicate, length-drop, drop_of_length-le, take-append-drop}
use lib.Seq.{sets, sets-eq, length-sets, take-suc, take-append_seam, take-length, length-take-le, drop-cons}
use borrow.Rule.Slice.PartMut.{put_mid, same_len_mid}
use Rattle.std.proofs.lemmas.Slice.{take-put_mid, drop-put_mid}
use Rattle.symmetry_named.specs.declared.Operator.{Operator}
use Rattle.symmetry_named.specs.declared.Flat.{Flat}
use Rattle.symmetry_named.specs.Named.{no_operator, twelve, all_numbers, flat_of_zeros, with_row, filled_to, flat_checked, checked_named}
use Rattle.symmetry_operators.proofs.Pigeon.{by_cases}
use Rattle.symmetry_operators.proofs.Words.{not-list}
use Rattle.symmetry_operators.specs.Check.{outcome, checked}
use Rattle.symmetry_operators.specs.Wording.{too_many}

-- ---- the numbers of a row, stored one after the other
numbers_from : (l : List ℤ) (k n : ℕ) → k + n ≡ length l → drop k l ≡ tabulate (λ (i : ℕ). get_or l i (pos 0)) k n
numbers_from l k zero e = drop_of_length-le l (omega arith)
numbers_from l k (suc n) e = drop-cons l k (pos 0) (omega arith) ∙ ap (λ (r : List ℤ). get_or l k (pos 0) ∷ r) (numbers_from l (suc k) n (omega arith))

-- an operator's twelve numbers are its factors and its translations
twelve-is : (o : Operator) → length o.factors ≡ 9 → length o.translations ≡ 3 → o.factors ++ o.translations ≡ twelve o
twelve-is o f t = λ j. numbers_from o.factors 0 9 (sym f) j ++ numbers_from o.translations 0 3 (sym t) j

-- two lists, stored one after the other in a part of a list
stored_both : (l f t : List ℤ) (at m n k : ℕ) → length f ≡ m → length t ≡ n → k ≡ at + m → k + n ≤ length l
    → put_mid k n (put_mid at m l f) t ≡ sets l at (f ++ t)
stored_both l f t at m n k e g p fits =
    let w = put_mid at m l f in
    let size : length (f ++ t) ≡ m + n = length-append f t ∙ omega arith in
    let room : m ≤ length (drop at l) = rw length-drop (omega arith) in
    let kept : length w ≡ length l = same_len_mid at m l f (e ∙ sym (length-take-le m (drop at l) room)) in
    let front : take (k + n) (put_mid k n w t) ≡ (take at l ++ f) ++ t
    = take-put_mid k n w t (k + n) (omega arith) (omega arith) ∙ ap (λ (x : List ℤ). x ++ t) (take-put_mid at m l f k (omega arith) (omega arith)) in
    let back : drop (k + n) (put_mid k n w t) ≡ drop (k + n) l
    = drop-put_mid k n w t (k + n) (omega arith) (omega arith) g ∙ drop-put_mid at m l f (k + n) (omega arith) (omega arith) e in
    let last : k + n ≡ at + length (f ++ t) = omega arith in
    sym (take-append-drop (k + n) (put_mid k n w t))
    ∙ (λ j. front j ++ back j)
    ∙ ap (λ (x : List ℤ). x ++ drop (k + n) l) (append_assoc (take at l) f t)
    ∙ ap (λ (x : ℕ). (take at l ++ (f ++ t)) ++ drop x l) last
    ∙ sym (sets-eq (f ++ t) l at (omega arith))

pub store_law : (f : Flat) (i : ℕ) (o : Operator) (a b : List ℤ) (m n k : ℕ) → i < 192 → length f.numbers ≡ 2304 → length o.factors ≡ 9 → length o.translations ≡ 3
    → a ≡ o.factors → b ≡ o.translations → m ≡ 9 → n ≡ 3 → k ≡ 12 * i + 9
    → ◌≡◌ {A = Flat} (record { numbers = put_mid k n (put_mid (12 * i) m f.numbers a) b }) (with_row f i o)
unfolding with_row
store_law f i o a b m n k h long nine three p q e g at =
    rw (lt-ltb i 192 h)
    (ap {B = Flat} (λ (w : List ℤ). record { numbers = w })
    (stored_both f.numbers a b (12 * i) m n k (ap length p ∙ nine ∙ sym e) (ap length q ∙ three ∙ sym g) (omega arith) (omega arith)
    ∙ (λ j. sets f.numbers (12 * i) (p j ++ q j))
    ∙ ap (sets f.numbers (12 * i)) (twelve-is o nine three)))

few-rows : (f : Flat) (n : ℕ) → n ≤ 192 → checked (take (12 * n) f.numbers) ≡ flat_checked f n
unfolding flat_checked
few-rows f n h = rw (le-leb n 192 h)

many-rows : (f : Flat) (n : ℕ) → 192 < n → outcome 13 0 ≡ flat_checked f n
unfolding flat_checked
many-rows f n h = rw (lt-leb n 192 h)

-- ---- the rows so far
pub first_rows : (l : List Operator) → flat_of_zeros ≡ filled_to l 0
unfolding filled_to
first_rows l = refl

record Filled (l : List Operator) (i : ℕ) : Type 0 where
  pub long : length (filled_to l i).numbers ≡ 2304
  pub so-far : take (12 * i) (filled_to l i).numbers ≡ all_numbers (take i l)

numbers-append : (l m : List Operator) → all_numbers (l ++ m) ≡ all_numbers l ++ all_numbers m
numbers-append [] m = refl
numbers-append (o ∷ l) m = ap (λ (v : List ℤ). twelve o ++ v) (numbers-append l m) ∙ sym (append_assoc (twelve o) (all_numbers l) (all_numbers m))

numbers-length : (l : List Operator) → length (all_numbers l) ≡ 12 * length l
numbers-length [] = refl
numbers-length (o ∷ l) = length-append (twelve o) (all_numbers l) ∙ let e = numbers-length l in omega arith

filled : (l : List Operator) (i : ℕ) → i ≤ length l → i ≤ 192 → Filled l i
unfolding filled_to with_row flat_of_zeros
filled l zero h k = record { long = length-replicate 2304 (pos 0); so-far = refl }
filled l (suc i) h k = step (filled l i (omega arith) (omega arith))
  where
    step : Filled l i → Filled l (suc i)
    step r =
        let v = (filled_to l i).numbers in
        let o = get_or l i no_operator in
        let long = r.long in
        let seen : sets v (12 * i) (twelve o) ≡ (take (12 * i) v ++ twelve o) ++ drop (12 * i + 12) v = sets-eq (twelve o) v (12 * i) (omega arith) in
        let size : length (take (12 * i) v ++ twelve o) ≡ 12 * suc i = length-append (take (12 * i) v) (twelve o)
        ∙ ap (λ (n : ℕ). n + 12) (length-take-le (12 * i) v (omega arith)) ∙ omega arith in
        let cut : take (12 * suc i) (sets v (12 * i) (twelve o)) ≡ all_numbers (take (suc i) l)
        = ap (take (12 * suc i)) seen
        ∙ ap (λ (n : ℕ). take n ((take (12 * i) v ++ twelve o) ++ drop (12 * i + 12) v)) (sym size)
        ∙ take-append_seam (take (12 * i) v ++ twelve o) (drop (12 * i + 12) v)
        ∙ ap (λ (w : List ℤ). w ++ twelve o) r.so-far
        ∙ sym (ap all_numbers (take-suc l i no_operator h) ∙ numbers-append (take i l) (o ∷ [])
        ∙ ap (λ (w : List ℤ). all_numbers (take i l) ++ w) (append-nil (twelve o))) in
        record { long = rw (lt-ltb i 192 k) (length-sets v (12 * i) (twelve o) ∙ long); so-far = rw (lt-ltb i 192 k) cut }

pub named_law : (l : List Operator) → flat_checked (filled_to l (length l)) (length l) ≡ checked_named l
unfolding checked_named
named_law l = by_cases (leb (length l) 192)
    (λ t. let h = leb-true (length l) 192 t in
    sym (few-rows (filled_to l (length l)) (length l) h) ∙ ap checked ((filled l (length l) (le_refl _) h).so-far ∙ ap all_numbers (take-length l)))
    (λ t. let h = leb-false (length l) 192 t in let e = numbers-length l in
    sym (many-rows (filled_to l (length l)) (length l) h) ∙ not-list (all_numbers l) (too_many (omega arith)))
