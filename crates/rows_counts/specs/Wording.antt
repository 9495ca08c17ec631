-- Rows 13 to 24 in the request's words (document 02, No. 11), over the table of rules.
-- Assumes nothing.
use Rattle.std.specs.Prelude.{ℕ, ◌≡◌, true, cond, List, [], ◌∷◌, ◌⊎◌, ◌↔◌, leb, ℤ, pos, ◌<ℤ◌, Option, Some, None}
use Rattle.number_decimal.specs.Reading.{reading_of}
use Rattle.rows.specs.Rows.{row_of, no_alert, missing}
use Rattle.rows.specs.declared.Row.{Row}
use Rattle.rows_counts.specs.declared.Rule.{Rule}
use Rattle.rows_counts.specs.declared.Rule.TheVariants.{Present, PresentIfDiffer, ZeroIfAgree, NotAbove, Rising}

-- a text that is a number of which P holds: it is there, and can be compared
pub record Holds (P : ℤ → Type 0) (v : List ℕ) : Type 0 where
  pub worth : ℤ
  pub read : reading_of v ≡ Some worth
  pub so : P worth

abbrev pub There : List ℕ → Type 0
There = Holds (λ z. Unit {0})

-- two numbers of which R holds
abbrev pub Both : (ℤ → ℤ → Type 0) → List ℕ → List ℕ → Type 0
Both R v w = Holds (λ x. Holds (R x) w) v

-- the items whose numbers a rule compares: "in 20 that is total or gt, in 21 item 14 too"
abbrev pub compared : Option Rule → List ℕ
compared (Some (Present i)) = []
compared (Some (PresentIfDiffer i a b)) = a ∷ b ∷ []
compared (Some (ZeroIfAgree i a b)) = i ∷ a ∷ b ∷ []
compared (Some (NotAbove a b)) = a ∷ b ∷ []
compared (Some (Rising a b c)) = a ∷ b ∷ c ∷ []
compared None = []

-- "with no compared item missing"
abbrev pub AllThere : (ℕ → List ℕ) → List ℕ → Type 0
AllThere at [] = Unit {0}
AllThere at (i ∷ is) = There (at i) × AllThere at is

-- a rule "is broken"
abbrev pub Broken : (ℕ → List ℕ) → Option Rule → Type 0
-- the item is not present
Broken at (Some (Present i)) = missing (at i) ≡ true
-- total and gt differ, and the item is not present
Broken at (Some (PresentIfDiffer i a b)) = Both (λ x y. x ≡ y → ⊥) (at a) (at b) × (missing (at i) ≡ true)
-- total and gt agree, and the item is not zero
Broken at (Some (ZeroIfAgree i a b)) = Both (λ x y. x ≡ y) (at a) (at b) × Holds (λ z. z ≡ pos 0 → ⊥) (at i)
-- the first is above the second
Broken at (Some (NotAbove a b)) = Both (λ x y. y <ℤ x) (at a) (at b)
-- they fall, from the first to the second or from the second to the third
Broken at (Some (Rising a b c)) = Both (λ x y. y <ℤ x) (at a) (at b) ⊎ Both (λ y z. z <ℤ y) (at b) (at c)
Broken at None = ⊥

-- "reason 1 in 13 to 19, else 0"
abbrev pub reason_of : ℕ → ℕ
reason_of row = cond (leb row 19) 1 0

-- what a rule makes of its row: `whole` says that no compared item is missing, `broken` that the rule is broken, and the reason is that with which it fires
pub record Judges (whole broken : Type 0) (reason : ℕ) (r : Row) : Type 0 where
  -- "fires exactly when its rule, with no compared item missing, is broken", at level C
  pub fires : (r.level ≡ 2) ↔ (whole × broken)
  pub fired : r.level ≡ 2 → r ≡ row_of 2 reason
  -- "a missing item that the rule compares gives level 0, reason 1"
  pub gap : (whole → ⊥) → r ≡ row_of 0 1
  -- no compared item is missing, and the rule holds
  pub quiet : whole → (broken → ⊥) → r ≡ no_alert
