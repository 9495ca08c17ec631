-- Row 12's expression in document 01's words ("The twelve rows", 12). `Wording` (proofs) shows that `threshold_row` judges it.
-- Assumes nothing.
use Rattle.std.specs.Prelude.{ℕ, ◌≡◌, Bool, true, false, List, [], ◌++◌}
use Rattle.text.specs.Quote.{bytes}
use Rattle.number_decimal.specs.Grammar.{IsSize}

-- "I > x\s(I), F^2^ > x\s(F^2^) or F > x\s(F)": the text, whether it is of F alone, and x
pub data Expression : List ℕ → Bool → List ℕ → Type 0 where
  intensity : (x : List ℕ) → Expression (bytes "I > " ++ (x ++ bytes "\\s(I)")) false x
  f_squared : (x : List ℕ) → Expression (bytes "F^2^ > " ++ (x ++ bytes "\\s(F^2^)")) false x
  f_alone : (x : List ℕ) → Expression (bytes "F > " ++ (x ++ bytes "\\s(F)")) true x

-- "x a number without sign or uncertainty", worth m millionths
pub record IsMultiplier (x : List ℕ) (m : ℕ) : Type 0 where
  pub is_size : IsSize x m
  pub certain : is_size.tail ≡ []

-- the text is such an expression, with an x worth m millionths
pub record IsThreshold (t : List ℕ) (alone : Bool) (m : ℕ) : Type 0 where
  pub x : List ℕ
  pub expression : Expression t alone x
  pub multiplier : IsMultiplier x m
