-- A symbol is recognised exactly when it is one of the 118, and the symbols of the other tables are among them.
-- Each table's rule is a test that antt computes. Assumes nothing.
use Rattle.std.specs.Prelude.{Some, None}
use mathlib.Core.Path.{◌≡◌, refl, sym, ap, ◌∙◌}
use mathlib.Core.Bool.{true}
use Prim.Native.Nat.{ℕ, ◌+◌, ◌*◌, ◌<◌}
use native.Mathlib.Omega.{arith}
use lib.ListN.{length, get_or}
use Rattle.text.proofs.Tables.{agree}
use Rattle.formula_elements.specs.Elements.{same_symbol, place_of, symbols, element_count, element_of, is_element, not_metals, weights}
use Rattle.formula_elements.proofs.Places.{place-within, place_is}
use Rattle.formula_elements.proofs.Weights.{symbols_in}

-- each symbol is found at its own place
pub symbol-own : (k : ℕ) → k < element_count → element_of (get_or symbols (2 * k) 0) (get_or symbols (2 * k + 1) 0) ≡ Some k
unfolding symbols element_of place_of same_symbol
symbol-own = agree (λ (k : ℕ). element_of (get_or symbols (2 * k) 0) (get_or symbols (2 * k + 1) 0)) Some None element_count refl

-- what is found is the symbol at that place
pub record IsElement (a b k : ℕ) : Type 0 where
  pub within : k < element_count
  pub first : get_or symbols (2 * k) 0 ≡ a
  pub second : get_or symbols (2 * k + 1) 0 ≡ b

symbols-length : length symbols ≡ 2 * element_count
unfolding symbols
symbols-length = refl

pub element-is : (a b k : ℕ) → element_of a b ≡ Some k → IsElement a b k
unfolding element_of
element-is a b k e =
    let l = place-within symbols a b k e in
    let h = place_is symbols a b k e in
    record { within = omega (arith, symbols-length); first = h.0; second = h.1 }

pub element-of : (a b k : ℕ) → IsElement a b k → element_of a b ≡ Some k
element-of a b k h =
    ap (λ (x : ℕ). element_of x b) (sym h.first) ∙ ap (element_of (get_or symbols (2 * k) 0)) (sym h.second) ∙ symbol-own k h.within

-- every symbol of a table is recognised
pub not-metals-recognised : (k : ℕ) → k < 25 → is_element (get_or not_metals (2 * k) 0) (get_or not_metals (2 * k + 1) 0) ≡ true
unfolding not_metals is_element symbols element_of place_of same_symbol
not-metals-recognised = agree (λ (k : ℕ). is_element (get_or not_metals (2 * k) 0) (get_or not_metals (2 * k + 1) 0)) (λ (k : ℕ). true) true 25 refl

pub weighed-recognised : (k : ℕ) → k < 25 → is_element (get_or (symbols_in weights) (2 * k) 0) (get_or (symbols_in weights) (2 * k + 1) 0) ≡ true
unfolding weights symbols_in is_element symbols element_of place_of same_symbol
weighed-recognised = agree (λ (k : ℕ). is_element (get_or (symbols_in weights) (2 * k) 0) (get_or (symbols_in weights) (2 * k + 1) 0)) (λ (k : ℕ). true) true 25 refl
