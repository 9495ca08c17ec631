-- The wording of document 01, "The twelve rows", for a term and for the cutting of a text, with no stages. `Wording` (proofs) shows that
-- `term_of` and `cut` are it. Assumes nothing.
use Rattle.std.specs.Prelude.{ℕ, ◌≤◌, ◌≡◌, Bool, true, List, [], ◌∷◌, ◌++◌, get_or}
use Rattle.text.specs.Run.{all, other, is_digit, is_capital, is_small}
use Rattle.number_decimal.specs.Digits.{value_of}
use Rattle.formula_terms.specs.Term.{most_count}

-- "a capital, optionally one small letter": the text of the symbol a b
pub data SymbolText : List ℕ → ℕ → ℕ → Type 0 where
  capital : (a : ℕ) → is_capital a ≡ true → SymbolText (a ∷ []) a 32
  capital_small : (a b : ℕ) → is_capital a ≡ true → is_small b ≡ true → SymbolText (a ∷ (b ∷ [])) a b

-- "optionally a count 1 to 9999 without leading zero (none means 1)": the text of the count n
pub data CountText : List ℕ → ℕ → Type 0 where
  none : CountText [] 1
  written : (ds : List ℕ) → all is_digit ds ≡ true → (get_or ds 0 0 ≡ 48 → ⊥) → 1 ≤ value_of ds → value_of ds ≤ most_count → CountText ds (value_of ds)

-- the text t is a term of the symbol a b and the count n
pub record IsTerm (t : List ℕ) (a b n : ℕ) : Type 0 where
  pub symbol : List ℕ
  pub count : List ℕ
  pub text : t ≡ symbol ++ count
  pub is_symbol : SymbolText symbol a b
  pub is_count : CountText count n

-- some texts with one space between each two
unfoldable pub joined : List (List ℕ) → List ℕ
joined [] = []
joined (t ∷ []) = t
joined (t ∷ (u ∷ ts)) = t ++ (32 ∷ joined (u ∷ ts))

-- none of some texts has a space
abbrev pub spaceless : List (List ℕ) → Bool
spaceless ts = all (all (other 32)) ts
