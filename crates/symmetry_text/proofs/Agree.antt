-- The reading by stages is the grammar's: each text of the grammar is read as its row, each row that is read is of a text of the grammar and within its
-- ranges, and the grammar gives a text at most one row. Assumes nothing.
use mathlib.Core.Path.{◌≡◌, refl, sym, ap, subst, ◌∙◌}
use mathlib.Core.Bool.{true}
use mathlib.Core.List.{List, ◌∷◌, ◌++◌}
use Prim.Native.Nat.{ℕ, ◌+◌}
use native.Mathlib.Numerals.{add-one}
use native.Mathlib.Omega.{arith}
use lib.IntN.{ℤ, pos}
use lib.ListN.{length, take, drop, replicate, length-append}
use lib.Seq.{take-append_seam, drop-append-add, get_or-append_seam, split_at}
use Rattle.std.specs.Prelude.{Option, Some, None}
use Rattle.std.proofs.lemmas.Option.{none-some}
use Rattle.text.specs.Run.{all, other, has_at}
use Rattle.text.proofs.Bools.{cond-first}
use Rattle.text.proofs.Runs.{all_append, run-append, run_none, has_here, has_within, has-byte}
use Rattle.symmetry_operators.specs.Operator as operator
use Rattle.symmetry_operators.specs.Check.{row_from}
use Rattle.symmetry_parts.specs.Grammar.{IsPart}
use Rattle.symmetry_parts.specs.Reading.{part_of}
use Rattle.symmetry_parts.specs.declared.Sum.{Sum}
use Rattle.symmetry_parts.proofs.Complete.{part-taken}
use Rattle.symmetry_parts.proofs.Sound.{part-is}
use Rattle.symmetry_parts.proofs.Ranges.{numbers-fine, part-lacks-comma, part-lacks-space}
use Rattle.symmetry_text.specs.Grammar.{IsOperator, ReadAs}
use Rattle.symmetry_readings.specs.Answers.{row_length, reading_number, numbers}
use Rattle.symmetry_text.specs.Reading.{row_of, row_of_parts, parts_of, before_comma, at_comma, second_of, reading_of}
use Rattle.symmetry_readings.specs.declared.OperatorRow.{OperatorRow}

-- ---- the comma that parts a text
module _ (a r : List ℕ) (h : all (other 44) a ≡ true) where
  comma-at : before_comma (a ++ (44 ∷ r)) ≡ length a
  unfolding other
  comma-at = run-append (other 44) a (44 ∷ r) h (run_none (other 44) 44 r refl)

  comma-here : has_at (a ++ (44 ∷ r)) (length a) 44 ≡ true
  comma-here = has_here (a ++ (44 ∷ r)) (length a) 44 (omega (arith, length-append a (44 ∷ r))) (get_or-append_seam a 44 r 0)

  pub comma-parted : (f : List ℕ → List ℕ → Option OperatorRow) → at_comma f (a ++ (44 ∷ r)) ≡ f a r
  unfolding at_comma
  comma-parted f = simp (comma-at, comma-here, take-append_seam, drop-append-add a (44 ∷ r) 1)

comma-parts : (s : List ℕ) → has_at s (before_comma s) 44 ≡ true → s ≡ take (before_comma s) s ++ (44 ∷ drop (before_comma s + 1) s)
comma-parts s h = split_at s (before_comma s) 0 (has_within s (before_comma s) 44 h) ∙ rw (has-byte s (before_comma s) 44 h, add-one (before_comma s))

-- ---- a text of the grammar is read as its row
pub record Taken (t : List ℕ) (r : operator.Row ℤ) : Type 0 where
  pub found : OperatorRow
  pub read : reading_of t ≡ Some found
  pub row : row_from (numbers (Some found)) ≡ r

pub operator-taken : (t : List ℕ) (r : operator.Row ℤ) → IsOperator t r → Taken t r
unfolding parts_of row_from
operator-taken t r h =
    let a = part-taken h.first r.first h.is_first in
    let b = part-taken h.second r.second h.is_second in
    let c = part-taken h.third r.third h.is_third in
    let rest = h.second ++ (44 ∷ h.third) in
    let parts : parts_of h.first h.second h.third ≡ Some (row_of a.sum b.sum c.sum) = rw (a.read, b.read, c.read) in
    record {
      found = row_of a.sum b.sum c.sum;
      read =
          ap reading_of h.text
          ∙ comma-parted h.first rest (part-lacks-comma h.is_first) second_of
          ∙ comma-parted h.second h.third (part-lacks-comma h.is_second) (parts_of h.first)
          ∙ parts;
      row = rw (a.worth, b.worth, c.worth);
    }

-- ---- what is read is a text of the grammar
module _ (r : OperatorRow) where
  -- a text with a comma, of which f makes the row
  record Cut (f : List ℕ → List ℕ → Option OperatorRow) (s : List ℕ) : Type 0 where
    before : List ℕ
    after : List ℕ
    text : s ≡ before ++ (44 ∷ after)
    read : f before after ≡ Some r

  parts-by : (first second third : List ℕ) (x y z : Option Sum) → part_of first ≡ x → part_of second ≡ y → part_of third ≡ z → row_of_parts x y z ≡ Some r
      → IsOperator (first ++ (44 ∷ (second ++ (44 ∷ third)))) (row_from (numbers (Some r)))
  unfolding row_from
  parts-by first second third None y z h k l e = absurd (none-some r e)
  parts-by first second third (Some p) None z h k l e = absurd (none-some r e)
  parts-by first second third (Some p) (Some q) None h k l e = absurd (none-some r e)
  parts-by first second third (Some p) (Some q) (Some s) h k l e =
      subst (λ (x : Option OperatorRow). IsOperator (first ++ (44 ∷ (second ++ (44 ∷ third)))) (row_from (numbers x))) e
      (record {
        first = first;
        second = second;
        third = third;
        text = refl;
        is_first = part-is first p h;
        is_second = part-is second q k;
        is_third = part-is third s l;
      })

  parts_are : (first second third : List ℕ) → parts_of first second third ≡ Some r → IsOperator (first ++ (44 ∷ (second ++ (44 ∷ third)))) (row_from (numbers (Some r)))
  unfolding parts_of
  parts_are first second third e = parts-by first second third (part_of first) (part_of second) (part_of third) refl refl refl e

  at-comma : (f : List ℕ → List ℕ → Option OperatorRow) (s : List ℕ) → at_comma f s ≡ Some r → Cut f s
  unfolding at_comma
  at-comma f s e =
      let h = cond-first (has_at s (before_comma s) 44) _ None (Some r) (none-some r) e in
      record { before = take (before_comma s) s; after = drop (before_comma s + 1) s; text = comma-parts s h.0; read = h.1 }

  pub operator-is : (t : List ℕ) → reading_of t ≡ Some r → IsOperator t (row_from (numbers (Some r)))
  operator-is t e =
      let h = at-comma second_of t e in
      let k = at-comma (parts_of h.before) h.after h.read in
      let text : t ≡ h.before ++ (44 ∷ (k.before ++ (44 ∷ k.after))) = h.text ∙ ap (λ (u : List ℕ). h.before ++ (44 ∷ u)) k.text in
      subst (λ (u : List ℕ). IsOperator u (row_from (numbers (Some r)))) (sym text) (parts_are h.before k.before k.after k.read)

-- ---- the theorems
-- the reading is the grammar's, both ways
pub agree : (t : List ℕ) (r : Option OperatorRow) → r ≡ reading_of t → ReadAs t r
agree t (Some r) e = operator-is r t (sym e)
agree t None e = λ r h. let k = operator-taken t r h in none-some k.found (e ∙ k.read)

-- two rows of one text are equal
pub one-reading : (t : List ℕ) (q r : operator.Row ℤ) → IsOperator t q → IsOperator t r → q ≡ r
one-reading t q r g h =
    let a = operator-taken t q g in
    let b = operator-taken t r h in
    sym a.row ∙ ap (λ (x : Option OperatorRow). row_from (numbers x)) (sym a.read ∙ b.read) ∙ b.row

-- "gives its row": the number 0 and the twelve numbers of the row
pub row-given : (t : List ℕ) (r : operator.Row ℤ) → IsOperator t r → (reading_number (reading_of t) ≡ 0) × (row_from (numbers (reading_of t)) ≡ r)
row-given t r h = let k = operator-taken t r h in (ap reading_number k.read, ap (λ (x : Option OperatorRow). row_from (numbers x)) k.read ∙ k.row)

-- "or 13 and twelve zeros": of every other text
pub zeros-given : (t : List ℕ) → ((r : operator.Row ℤ) → IsOperator t r → ⊥) → (reading_number (reading_of t) ≡ 13) × (numbers (reading_of t) ≡ replicate row_length (pos 0))
zeros-given t none = by (reading_of t) refl
  where
    by : (r : Option OperatorRow) → reading_of t ≡ r → (reading_number (reading_of t) ≡ 13) × (numbers (reading_of t) ≡ replicate row_length (pos 0))
    by (Some r) e = absurd (none _ (operator-is r t e))
    by None e = (ap reading_number e, ap numbers e)

-- there are twelve numbers
pub twelve : (r : Option OperatorRow) → length (numbers r) ≡ row_length
twelve (Some r) = refl
twelve None = refl

-- "no spaces"
pub no_spaces : (t : List ℕ) (r : operator.Row ℤ) → IsOperator t r → all (other 32) t ≡ true
unfolding all other
no_spaces t r h =
    let last : all (other 32) (44 ∷ h.third) ≡ true = part-lacks-space h.is_third in
    let rest : all (other 32) (44 ∷ (h.second ++ (44 ∷ h.third))) ≡ true = all_append (other 32) h.second (44 ∷ h.third) (part-lacks-space h.is_second) last in
    rw h.text (all_append (other 32) h.first _ (part-lacks-space h.is_first) rest)

part-fine : {t : List ℕ} {p : operator.Part ℤ} → IsPart t p → operator.fine_part p ≡ true
part-fine {t} {p} h = let k = part-taken t p h in ap operator.fine_part (sym k.worth) ∙ numbers-fine k.sum

-- the row of a text is within its ranges
pub operator-fine : (t : List ℕ) (r : operator.Row ℤ) → IsOperator t r → operator.fine r ≡ true
unfolding operator.fine
operator-fine t r h = simp (part-fine h.is_first, part-fine h.is_second, part-fine h.is_third)

-- and so is every row that is read
pub read-fine : (t : List ℕ) (r : OperatorRow) → reading_of t ≡ Some r → operator.fine (row_from (numbers (Some r))) ≡ true
read-fine t r e = operator-fine t _ (operator-is r t e)
