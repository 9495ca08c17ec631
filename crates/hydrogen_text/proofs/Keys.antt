-- The order key of hydrogen is that of no other symbol.
-- Assumes nothing.
use Prim.Native.Nat.{ℕ, ◌+◌, ◌*◌, ◌<◌}
use mathlib.Core.Path.{◌≡◌, refl, sym, ap, ◌∙◌}
use mathlib.Core.Bool.{Bool, true, false, cond, false≢true}
use mathlib.Core.List.{List}
use native.Mathlib.Omega.{arith}
use borrow.Author.Tests.{leb-true, eqb-true, ltb-false}
use lib.Dec.{leb, ltb, eqb}
use Rattle.text.specs.Run.{between}
use Rattle.text.proofs.Bools.{and_both}
use Rattle.formula_elements.specs.Elements.{same_symbol}
use Rattle.formula_terms.specs.Term.{term_of, well}
use Rattle.formula_terms.specs.Grammar.{SymbolText, capital, capital_small}
use Rattle.formula_terms.proofs.Wording.{term_is}
use Rattle.formula_order.specs.Order.{rank, order_key}

abbrev pub hydrogen_key : Bool → ℕ
hydrogen_key c = order_key c 72 32

-- it is above 0
pub key_above : (c : Bool) → 0 < hydrogen_key c
unfolding order_key
key_above c = omega arith

symbol-byte : {t : List ℕ} {a b : ℕ} → SymbolText t a b → b < 256
unfolding between
symbol-byte (capital a up) = omega arith
symbol-byte (capital_small a b up low) = let h = and_both (leb 97 b) (leb b 122) low in omega (arith, leb-true b 122 h.1)

-- the second byte of a symbol that was read
pub read_byte : (w : List ℕ) (a b n : ℕ) → term_of w ≡ well a b n → b < 256
read_byte w a b n e = symbol-byte (term_is w a b n e).is_symbol

pub same-symbol : (a b x y : ℕ) → same_symbol a b x y ≡ true → (a ≡ x) × (b ≡ y)
unfolding same_symbol
same-symbol a b x y e = let k = and_both (eqb a x) (eqb b y) e in (eqb-true a x k.0, eqb-true b y k.1)

pub own_key : (c : Bool) (a b : ℕ) → same_symbol a b 72 32 ≡ true → order_key c a b ≡ hydrogen_key c
own_key c a b e = let k = same-symbol a b 72 32 e in ap (λ (x : ℕ). order_key c x b) k.0 ∙ ap (λ (y : ℕ). order_key c 72 y) k.1

other_key : (c : Bool) (a b : ℕ) → b < 256 → same_symbol a b 72 32 ≡ false → order_key c a b ≡ hydrogen_key c → ⊥
unfolding order_key rank same_symbol
other_key true a b l s e = go (same_symbol a b 67 32) refl (rw s at e)
  where
    go : (x : Bool) → same_symbol a b 67 32 ≡ x → (cond x 0 2 * 256 + a) * 256 + b ≡ 84000 → ⊥
    go true q k = let z = same-symbol a b 67 32 q in omega (arith, z.0, z.1)
    go false q k = omega arith
other_key false a b l s e =
    let y : a ≡ 72 = omega arith in
    let z : b ≡ 32 = omega arith in
    false≢true (sym s ∙ rw (y, z))

-- another symbol that does not stand after hydrogen stands before it
pub key-before : (c : Bool) (w : List ℕ) (a b n : ℕ) → term_of w ≡ well a b n → same_symbol a b 72 32 ≡ false → ltb (hydrogen_key c) (order_key c a b) ≡ false → order_key c a b < hydrogen_key c
key-before c w a b n r s e =
    let h = ltb-false (hydrogen_key c) (order_key c a b) e in
    let z = other_key c a b (read_byte w a b n r) s in
    omega (arith, z)
