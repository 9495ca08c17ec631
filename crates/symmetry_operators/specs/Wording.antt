-- The request's words on lists (document 02, No. 5): what stands in a list, when it is accepted, the condition of each refusal, and what the count of pairs is.
-- The theorems that join them with the tests of `Check` stand in proofs/Words.antt and proofs/Position.antt.
-- Assumes nothing.
use Rattle.std.specs.Prelude.{ℕ, suc, ◌+◌, ◌*◌, ◌%◌, ◌<◌, ◌≤◌, ◌≡◌, false, true, ◌⊎◌, List, ℤ, pos, negsuc, length, get_or}
use Rattle.symmetry_operators.specs.Operator.{Row, determinant, product, identity, fine}
use Rattle.symmetry_operators.specs.Check.{row_most, operator_rows, Outcome}

-- a stands at some place of the list
pub record In {A : Type 0} (l : List A) (a : A) : Type 0 where
  pub place : ℕ
  pub within : place < length l
  pub here : get_or l place a ≡ a

-- something in the list is so
pub record Some {A : Type 0} (l : List A) (P : A → Type 0) : Type 0 where
  pub one : A
  pub inside : In l one
  pub so : P one

-- row i of a list
abbrev pub operator_row : List (Row ℤ) → ℕ → Row ℤ
operator_row l i = get_or l i identity

-- ---- the refusals
-- "more than 192 rows, a part row or a number out of range"
pub data NoList (n : List ℤ) : Type 0 where
  too_many : 12 * row_most < length n → NoList n
  part_row : (length n % 12 ≡ 0 → ⊥) → NoList n
  out_of_range : Some (operator_rows n) (λ (r : Row ℤ). fine r ≡ false) → NoList n

-- the "determinant is 1 or −1"
abbrev pub HasUnit : Row ℤ → Type 0
HasUnit r = (determinant r ≡ pos 1) ⊎ (determinant r ≡ negsuc 0)

-- "14 determinant"
abbrev pub NoUnit : List (Row ℤ) → Type 0
NoUnit l = Some l (λ (r : Row ℤ). HasUnit r → ⊥)

-- "15 no identity"
abbrev pub NoIdentity : List (Row ℤ) → Type 0
NoIdentity l = In l identity → ⊥

-- "16 equal rows": at two places
pub record EqualRows (l : List (Row ℤ)) : Type 0 where
  pub first : ℕ
  pub second : ℕ
  pub apart : first < second
  pub within : second < length l
  pub equal : operator_row l first ≡ operator_row l second

-- "17 a product missing": of two rows of the list, or of one with itself
pub record ProductMissing (l : List (Row ℤ)) : Type 0 where
  pub first : Row ℤ
  pub second : Row ℤ
  pub first_in : In l first
  pub second_in : In l second
  pub missing : In l (product first second) → ⊥

-- ---- acceptance
-- "The list of at most 192 operators is lent as rows of whole numbers: nine factors from −1 to 1 .. and three translations in 24ths, 0 to 23"
pub record IsList (n : List ℤ) : Type 0 where
  pub few : length n ≤ 12 * row_most
  pub whole_rows : length n % 12 ≡ 0
  pub in_range : (r : Row ℤ) → In (operator_rows n) r → fine r ≡ true

-- "Accept it exactly when every determinant is 1 or −1, the identity is there, no two are equal and each product of two, or of one with itself, is in the list."
pub record Accepted (l : List (Row ℤ)) : Type 0 where
  pub determinants : (r : Row ℤ) → In l r → HasUnit r
  pub identity_there : In l identity
  pub none_equal : (i j : ℕ) → i < j → j < length l → operator_row l i ≡ operator_row l j → ⊥
  pub products : (r s : Row ℤ) → In l r → In l s → In l (product r s)

-- ---- the count of pairs
-- pair (i, j) comes before pair (k, m): "Pairs run by first row, then second"
abbrev pub Earlier : ℕ → ℕ → ℕ → ℕ → Type 0
Earlier i j k m = (i < k) ⊎ ((i ≡ k) × (j < m))

-- the product of rows i and j is in the list
abbrev pub Closes : List (Row ℤ) → ℕ → ℕ → Type 0
Closes l i j = In l (product (operator_row l i) (operator_row l j))

-- "up to and including the first without its product": that pair is (first, second), counted from 1 in the order of pairs
pub record FirstMissing (l : List (Row ℤ)) (count : ℕ) : Type 0 where
  pub first : ℕ
  pub second : ℕ
  pub first_within : first < length l
  pub second_within : second < length l
  pub counted : count ≡ suc (first * length l + second)
  pub missing : Closes l first second → ⊥
  pub before : (i j : ℕ) → i < length l → j < length l → Earlier i j first second → Closes l i j

-- "The check reports the number of pairs looked at up to and including the first without its product, or all pairs. .. the pair count is 0 for 13 to 16."
pub record Counted (l : List (Row ℤ)) (o : Outcome) : Type 0 where
  pub refused : 13 ≤ o.answer → o.answer ≤ 16 → o.pairs ≡ 0
  pub missing : o.answer ≡ 17 → FirstMissing l o.pairs
  pub accepted : o.answer ≡ 0 → o.pairs ≡ length l * length l
