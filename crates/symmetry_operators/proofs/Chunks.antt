-- The rows of a list of numbers as they come one by one, twelve numbers each.
-- Assumes nothing.
use Rattle.std.proofs.Common.{◌≡◌, refl, sym, ap, ◌∙◌, arith, ℕ, suc, ◌/◌, ◌<◌, Bool, ◌&&◌, List, [], ◌∷◌, ◌++◌, length, get_or, length-append}
use Rattle.std.specs.Prelude.{ℤ, pos, Some}
use Rattle.std.proofs.Common.{Bor}
use Rattle.std.specs.Iterator.{AlwaysYields}
use Rattle.std.specs.List.{list_all}
use Rattle.std.specs.declared.slice.ChunksExact.{ChunksExact}
use Rattle.std.specs.Slice.Iter.{chunks_exact_rest, chunks_exact_size, chunks_exact_steps}
use Rattle.std.proofs.lemmas.Iterator.{YieldsList}
use Rattle.std.proofs.lemmas.List.{get_or_append_left}
use lib.Dec.{lit<}
use lib.Seq.{drop_at}
use Rattle.text.specs.Run.{all}
use Rattle.symmetry_operators.specs.Operator.{Row, part}
use Rattle.symmetry_operators.specs.Check.{row_from, rows_from, operator_rows}

-- the row at the head of a list is that of its first twelve numbers
row-head : (x r : List ℤ) → length x ≡ 12 → row_from (x ++ r) ≡ row_from x
unfolding row_from
row-head x r e =
    let h : (k : ℕ) → k < 12 → get_or (x ++ r) k (pos 0) ≡ get_or x k (pos 0) = λ k l. get_or_append_left x r (pos 0) k (omega arith) in
    λ j. record {
      first = part (h 0 (lit< tt) j) (h 1 (lit< tt) j) (h 2 (lit< tt) j) (h 9 (lit< tt) j);
      second = part (h 3 (lit< tt) j) (h 4 (lit< tt) j) (h 5 (lit< tt) j) (h 10 (lit< tt) j);
      third = part (h 6 (lit< tt) j) (h 7 (lit< tt) j) (h 8 (lit< tt) j) (h 11 (lit< tt) j);
    }

-- fewer than twelve numbers have no row
pub rows-none : (l : List ℤ) → length l < 12 → operator_rows l ≡ []
rows-none l h = let e : length l / 12 ≡ 0 = omega arith in ap (λ (n : ℕ). rows_from n l) e

-- twelve numbers, and what follows them
pub rows-more : (x r : List ℤ) → length x ≡ 12 → operator_rows (x ++ r) ≡ row_from x ∷ operator_rows r
rows-more x r e =
    let total = length-append x r in
    let size : length (x ++ r) / 12 ≡ suc (length r / 12) = omega arith in
    ap (λ (n : ℕ). rows_from n (x ++ r)) size ∙ (λ j. row-head x r e j ∷ rows_from (length r / 12) (drop_at x r 12 e j))

-- a row that comes is the first of those that are left
pub one-comes : (s t : ChunksExact ℤ) (x : Bor (List ℤ)) → chunks_exact_size s ≡ 12 → chunks_exact_steps s (Some x) t
    → operator_rows (chunks_exact_rest s) ≡ row_from x.now ∷ operator_rows (chunks_exact_rest t)
one-comes s t x z h = ap operator_rows h.1.0 ∙ rows-more x.now (chunks_exact_rest t) (h.1.1 ∙ z)

rows-come : (s : ChunksExact ℤ) (l : List (Row ℤ)) → chunks_exact_size s ≡ 12 → operator_rows (chunks_exact_rest s) ≡ l
    → AlwaysYields (chunks_exact_steps {A = ℤ}) (λ y. row_from y.now) s l
rows-come s [] z e = λ x j h. let k : row_from x.now ∷ operator_rows (chunks_exact_rest j) ≡ [] = sym (one-comes s j x z h) ∙ e in cc
rows-come s (r ∷ l) z e = (
  λ j h. let k : [] ≡ r ∷ l = sym (rows-none (chunks_exact_rest s) (omega (arith, h.1.0))) ∙ e in cc,
  λ x j h.
      let k : row_from x.now ∷ operator_rows (chunks_exact_rest j) ≡ r ∷ l = sym (one-comes s j x z h) ∙ e in
      let tail : operator_rows (chunks_exact_rest j) ≡ l = cc in
      (cc, rows-come j l (h.0 ∙ z) tail),
)

-- what comes of a list are its rows
pub rows-yielded : {s : ChunksExact ℤ} (l : List ℤ) → chunks_exact_size s ≡ 12 → chunks_exact_rest s ≡ l
    → YieldsList (chunks_exact_steps {A = ℤ}) (λ y. row_from y.now) s (operator_rows l)
rows-yielded {s} l z e = record { runs = rows-come s (operator_rows l) z (ap operator_rows e) }

pub all-is : {A : Type 0} (p : A → Bool) (l : List A) → list_all p l ≡ all p l
unfolding all
all-is p [] = refl
all-is p (x ∷ l) = ap (λ (t : Bool). p x && t) (all-is p l)
