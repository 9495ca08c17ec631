-- "Some element's total differs", over every recognised symbol, is what the comparison element by element finds, both ways.
-- Assumes nothing.
use Prim.Native.Nat.{ℕ, ◌+◌, ◌*◌}
use mathlib.Core.Path.{◌≡◌, refl}
use mathlib.Core.Bool.{Bool, true, false}
use mathlib.Core.List.{List}
use borrow.Author.Tests.{eqb-true, eqb-false, eq-eqb}
use lib.ListN.{get_or}
use Rattle.formula_elements.specs.Elements.{symbols, element_count}
use Rattle.formula_elements.proofs.Tables.{symbol-own, element-is}
use Rattle.formula_moiety.specs.Amounts.{formula_total}
use Rattle.formula_moiety.specs.Grammar.{Moiety}
use Rattle.formula_moiety.specs.Totals.{total_all}
use Rattle.formula_moiety.specs.Compare.{same_total, same_totals}
use Rattle.formula_moiety.specs.Wording.{SomeDiffers, EachSame}
use Rattle.formula_moiety.proofs.Every.{every-each, every-all, every_some}

module _ (m : Moiety) (ms : List Moiety) (s : List ℕ) where
  pub differs-is : same_totals m ms s ≡ false → SomeDiffers m ms s
  differs-is e =
      let h = every_some element_count (same_total m ms s) e in
      record {
        a = get_or symbols (2 * h.at) 0;
        b = get_or symbols (2 * h.at + 1) 0;
        k = h.at;
        symbol = symbol-own h.at h.within;
        differs = eqb-false _ _ h.fails;
      }

  pub each-is : same_totals m ms s ≡ true → EachSame m ms s
  each-is e a b k q = eqb-true _ _ (every-each element_count k (same_total m ms s) e (element-is a b k q).within)

  pub is-each : EachSame m ms s → same_totals m ms s ≡ true
  is-each h = every-all element_count (same_total m ms s) (λ k l. eq-eqb (total_all m ms k) (formula_total s k) (h (get_or symbols (2 * k) 0) (get_or symbols (2 * k + 1) 0) k (symbol-own k l)))

  pub is-differs : SomeDiffers m ms s → same_totals m ms s ≡ false
  is-differs d = go (same_totals m ms s) refl
    where
      go : (b : Bool) → same_totals m ms s ≡ b → b ≡ false
      go true e = absurd (d.differs (each-is e d.a d.b d.k d.symbol))
      go false e = refl
