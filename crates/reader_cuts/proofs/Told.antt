-- What the answers of a reading say: 0 while it waits, 20 only after the last part, and the sheets before a refused record.
-- Assumes nothing.
use mathlib.Core.Path.{◌≡◌, refl, sym, ap, ◌∙◌}
use mathlib.Core.Bool.{Bool, true, false, false≢true}
use mathlib.Core.List.{List, [], ◌∷◌, ◌++◌}
use mathlib.Core.Logic.{◌⊎◌, inl, inr}
use Prim.Native.Nat.{ℕ, ◌+◌, ◌-◌, ◌≤◌}
use native.Mathlib.Omega.{arith}
use lib.Dec.{eqb}
use lib.ListN.{length, take, drop, take-append-drop, drop_of_length-le}
use lib.Seq.{length-take-le, take-add, take_all}
use Rattle.desk_log.specs.Record.{head_length, length_told}
use Rattle.reader_cuts.specs.Reading.{bad_length, undecided, Reading, ended, short, read_all}
use Rattle.reader_cuts.proofs.Laws.{good_length, length_front, read-few, front-taken, undecided-few, every-reading}

module _ {S : Type 0} (refusal : ℕ → List ℕ → S → ℕ) (store : List ℕ → S → S) where
  -- "any part without a refusal gets 0"
  pub waits-with-0 : (s : S) (at : ℕ) (bs : List ℕ) → (read_all refusal store false s at bs).over ≡ false → (read_all refusal store false s at bs).answer ≡ 0
  waits-with-0 s at bs =
      every-reading refusal store false (λ t k cs r. r.over ≡ false → r.answer ≡ 0) (λ t k cs u e. refl) (λ t k cs h q e. absurd (false≢true (sym e)))
      (λ t k cs h g w q e. absurd (false≢true (sym e))) (λ t k cs r h g w z p. p) s at bs

  -- "20 is given only there"
  pub no-20-before : ((at : ℕ) (r : List ℕ) (s : S) → refusal at r s ≡ 20 → ⊥) → (s : S) (at : ℕ) (bs : List ℕ) → (read_all refusal store false s at bs).answer ≡ 20 → ⊥
  no-20-before no20 s at bs =
      every-reading refusal store false (λ t k cs r. r.answer ≡ 20 → ⊥) (λ t k cs u e. omega arith) (λ t k cs h q e. omega arith)
      (λ t k cs h g w q e. no20 k (take (length_told cs) cs) t e) (λ t k cs r h g w z p. p) s at bs

  -- "After a refusal the sheets hold the records before it": they are those of the bytes before its place, which are read with 0
  pub record Before (s : S) (at : ℕ) (bs : List ℕ) (r : Reading S) : Type 0 where
    pub later : at ≤ r.at
    pub sheets : read_all refusal store true s at (take (r.at - at) bs) ≡ ended 0 r.sheets r.at

  before-none : (s : S) (at : ℕ) (bs : List ℕ) → read_all refusal store true s at (take (at - at) bs) ≡ ended 0 s at
  before-none s at bs =
      let z : at - at ≡ 0 = omega arith in
      ap (λ (n : ℕ). read_all refusal store true s at (take n bs)) z ∙ read-few refusal store true s at [] (omega arith)

  before-short : (last : Bool) (s : S) (at : ℕ) (bs : List ℕ) → Before s at bs (short last s at bs)
  before-short false s at bs = record { later = omega arith; sheets = before-none s at bs }
  before-short true s at [] = record { later = omega arith; sheets = before-none s at [] }
  before-short true s at (b ∷ bs) = record { later = omega arith; sheets = before-none s at (b ∷ bs) }

  pub before-refused : (last : Bool) (s : S) (at : ℕ) (bs : List ℕ) → Before s at bs (read_all refusal store last s at bs)
  before-refused last s at bs =
      every-reading refusal store last Before (λ t k cs u. before-short last t k cs) (λ t k cs h q. record { later = omega arith; sheets = before-none t k cs })
      (λ t k cs h g w q. record { later = omega arith; sheets = before-none t k cs }) more s at bs
    where
      more : (s : S) (at : ℕ) (bs : List ℕ) (r : Reading S) → head_length ≤ length bs → bad_length (length_told bs) ≡ false → length_told bs ≤ length bs
          → eqb (refusal at (take (length_told bs) bs) s) 0 ≡ true
          → Before (store (take (length_told bs) bs) s) (at + length_told bs) (drop (length_told bs) bs) r → Before s at bs r
      more s at bs r h g w z p =
          let n : ℕ = length_told bs in
          let x : List ℕ = take n bs in
          let k : ℕ = r.at - (at + n) in
          let y : List ℕ = take k (drop n bs) in
          let gl = good_length n g in
          let l : length x ≡ n = length-take-le n bs w in
          let six : head_length ≤ length x = omega (arith, l) in
          let q : length_told x ≡ n = sym (length_front x (drop n bs) six) ∙ ap length_told (take-append-drop n bs) in
          let xx : take (length_told x) x ≡ x = take_all (length_told x) x (omega (arith, q, l)) in
          let none : drop (length_told x) x ≡ [] = drop_of_length-le x {i = length_told x} (omega (arith, q, l)) in
          let sum : r.at - at ≡ n + k = omega (arith, p.later) in
          let split : take (r.at - at) bs ≡ x ++ y
          = ap (λ (m : ℕ). take m bs) (sum) ∙ take-add n k bs in
          let ok : eqb (refusal at (take (length_told x) x) s) 0 ≡ true = rw xx z in
          let bl : bad_length (length_told x) ≡ false = rw q g in
          record {
            later = omega (arith, p.later);
            sheets = ap (read_all refusal store true s at) split ∙ front-taken refusal store true s at x y six bl (omega (arith, q, l)) ok
                ∙ ap (λ (u : List ℕ). read_all refusal store true (store u s) (at + length_told x) (drop (length_told x) x ++ y)) xx
                ∙ ap (λ (u : List ℕ). read_all refusal store true (store x s) (at + length_told x) (u ++ y)) none
                ∙ ap (λ (m : ℕ). read_all refusal store true (store x s) (at + m) y) q ∙ p.sheets;
          }

  -- a reading with an answer that a reader can keep: 0 while it goes on, and one of 0, 18, 19 and 20 when it is over
  pub record Known (r : Reading S) : Type 0 where
    pub going : r.over ≡ false → r.answer ≡ 0
    pub known : (r.answer ≡ 0) ⊎ ((18 ≤ r.answer) × (r.answer ≤ 20))
    pub waits : undecided r.rest ≡ true

  none-waits : undecided [] ≡ true
  none-waits = undecided-few [] (omega arith)

  known-short : (last : Bool) (s : S) (at : ℕ) (bs : List ℕ) → undecided bs ≡ true → Known (short last s at bs)
  known-short false s at bs u = record { going = λ e. refl; known = inl refl; waits = u }
  known-short true s at [] u = record { going = λ e. refl; known = inl refl; waits = none-waits }
  known-short true s at (b ∷ bs) u = record { going = λ e. absurd (false≢true (sym e)); known = inr (omega arith, omega arith); waits = none-waits }

  pub answers-known : ((at : ℕ) (r : List ℕ) (s : S) → (refusal at r s ≡ 0) ⊎ ((18 ≤ refusal at r s) × (refusal at r s ≤ 20)))
      → (last : Bool) (s : S) (at : ℕ) (bs : List ℕ) → Known (read_all refusal store last s at bs)
  answers-known ok last s at bs =
      every-reading refusal store last (λ t k cs r. Known r) (λ t k cs u. known-short last t k cs u)
      (λ t k cs h q. record { going = λ e. absurd (false≢true (sym e)); known = inr (omega arith, omega arith); waits = none-waits })
      (λ t k cs h g w q. record { going = λ e. absurd (false≢true (sym e)); known = ok k (take (length_told cs) cs) t; waits = none-waits }) (λ t k cs r h g w z p. p) s at bs
