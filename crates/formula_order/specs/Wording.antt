-- Row 2's order in the words of document 01 ("The twelve rows", 2) and of document 02 (No. 2). `Wording` (proofs) shows that `in_order` is it.
-- Assumes nothing.
use Rattle.std.specs.Prelude.{◌<◌, ◌≡◌, Option, Some, None}
use mathlib.Core.List.{List, [], ◌∷◌, Memᴰ}
use Rattle.formula_elements.specs.Elements.{carbon, hydrogen}
use Rattle.formula_elements.specs.declared.Symbol.{Symbol}
use Rattle.formula_terms.specs.declared.term.Term.{Term}

-- "the others": neither C nor H
abbrev pub Other : Symbol → Type 0
Other x = (x ≡ carbon → ⊥) × (x ≡ hydrogen → ⊥)

-- the symbol x stands before the symbol y in "rising ASCII order": by the first byte and, where that is the same, by the second
pub data Rises (x y : Symbol) : Type 0 where
  first_rises : x.first < y.first → Rises x y
  second_rises : x.first ≡ y.first → x.second < y.second → Rises x y

-- the symbol x stands before the symbol y with C among the symbols
pub data Before : Symbol → Symbol → Type 0 where
  -- "C first"
  carbon_first : (y : Symbol) → (y ≡ carbon → ⊥) → Before carbon y
  -- "then H"
  then_hydrogen : (y : Symbol) → Other y → Before hydrogen y
  -- "then the others in rising ASCII order"
  others_rise : (x y : Symbol) → Other x → Other y → Rises x y → Before x y

-- "the symbols of well-formed terms", in the order of the terms
abbrev pub symbols_of : List (Option Term) → List Symbol
symbols_of [] = []
symbols_of (Some u ∷ ts) = u.symbol ∷ symbols_of ts
symbols_of (None ∷ ts) = symbols_of ts

-- each symbol stands before every later one, as R says; "none twice", where none stands before itself
pub data Ordered (R : Symbol → Symbol → Type 0) : List Symbol → Type 0 where
  none : Ordered R []
  next : (x : Symbol) (later : List Symbol) → ((y : Symbol) → Memᴰ y later → R x y) → Ordered R later → Ordered R (x ∷ later)

-- row 2's order of some symbols (document 02, No. 2): "with C present as now, without C plain rising ASCII order, none twice there either"
pub data InOrder (xs : List Symbol) : Type 0 where
  with_carbon : Memᴰ carbon xs → Ordered Before xs → InOrder xs
  without_carbon : (Memᴰ carbon xs → ⊥) → Ordered Rises xs → InOrder xs
