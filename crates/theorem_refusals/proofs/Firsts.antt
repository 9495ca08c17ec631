-- The law of a table of refusals: what the first row that applies gives is the table's answer, and a table has one answer.
-- Assumes nothing.
use mathlib.Core.Path.{◌≡◌, sym, ◌∙◌}
use mathlib.Core.Bool.{Bool, true, false, not, false≢true}
use mathlib.Core.List.{List, [], ◌∷◌}
use Prim.Native.Nat.{ℕ}
use lib.Dec.{eqb}
use borrow.Author.Tests.{eq-eqb}
use Rattle.text.proofs.Bools.{and_both}
use Rattle.theorem_refusals.specs.Table.{Refusal, Below, Answers, other_than, different}

-- a row applies and gives the answer, or it does not and those below give it
pub data Row (applies is-answer below : Type 0) : Type 0 where
  this : applies → is-answer → Row applies is-answer below
  next : (applies → ⊥) → below → Row applies is-answer below

-- the first row that applies gives n: a proof of an instance goes down the rows
abbrev pub First : List Refusal → ℕ → Type 0
First [] n = n ≡ 0
First (r ∷ rs) n = Row r.applies (n ≡ r.number) (First rs n)

differ : (m n : ℕ) → not (eqb m n) ≡ true → m ≡ n → ⊥
differ m n e q = let s = eq-eqb m n q in let z : ◌≡◌ {A = Bool} false true = cc in false≢true z

-- a number that a table lacks is not what it gives
lacks : (m : ℕ) (rs : List Refusal) (n : ℕ) → First rs n → other_than m rs ≡ true → m ≡ n → ⊥
lacks m [] n f o e = differ m 0 o (e ∙ f)
lacks m (r ∷ rs) n (this w q) o e = differ m r.number (and_both _ (other_than m rs) o).0 (e ∙ q)
lacks m (r ∷ rs) n (next never f) o e = lacks m rs n f (and_both (not (eqb m r.number)) _ o).1 e

-- below the row that gave the answer no row gives it
past : (before : Type 0) (rs : List Refusal) (m n : ℕ) → m ≡ n → (before → ⊥) → other_than n rs ≡ true → Below before rs m
past before [] m n q never o = (λ e. absurd (differ n 0 o (sym q ∙ e)), λ h. absurd (never h))
past before (r ∷ rs) m n q never o =
    let b = and_both (not (eqb n r.number)) (other_than n rs) o in
    ((λ e. absurd (differ n r.number b.0 (sym q ∙ e)), λ h. absurd (never h.0)), past (before × (r.applies → ⊥)) rs m n q (λ h. never h.0) b.1)

below : (before : Type 0) (rs : List Refusal) (n : ℕ) → before → different rs ≡ true → First rs n → Below before rs n
below before [] n h d f = (λ e. h, λ k. f)
below before (r ∷ rs) n h d (this w q) =
    ((λ e. (h, w), λ k. q), past (before × (r.applies → ⊥)) rs n r.number q (λ k. k.1 w) (and_both (other_than r.number rs) _ d).0)
below before (r ∷ rs) n h d (next never f) =
    let b = and_both (other_than r.number rs) (different rs) d in
    ((λ e. absurd (lacks r.number rs n f b.0 (sym e)), λ k. absurd (never k.1)), below (before × (r.applies → ⊥)) rs n (h, never) b.1 f)

-- the general law
pub answers : (rs : List Refusal) (n : ℕ) → different rs ≡ true → First rs n → Answers rs n
answers rs n d f = below (Unit {0}) rs n tt d f

-- a table gives one number
pub one-first : (rs : List Refusal) (m n : ℕ) → First rs m → First rs n → m ≡ n
one-first [] m n f g = f ∙ sym g
one-first (r ∷ rs) m n (this w p) (this w' q) = p ∙ sym q
one-first (r ∷ rs) m n (this w p) (next never g) = absurd (never w)
one-first (r ∷ rs) m n (next never f) (this w q) = absurd (never w)
one-first (r ∷ rs) m n (next never f) (next never' g) = one-first rs m n f g
