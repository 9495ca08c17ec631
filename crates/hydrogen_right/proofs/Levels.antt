-- A row that is at level 0, or not, as the code tests it.
-- Assumes nothing.
use Prim.Native.Nat.{◌≤◌, ◌<◌}
use mathlib.Core.Path.{◌≡◌, sym, ap, ◌∙◌}
use mathlib.Core.Bool.{true, false}
use native.Mathlib.Omega.{arith}
use borrow.Author.Tests.{eq-eqb, ne_eqb}
use lib.Dec.{eqb}
use Rattle.rows.specs.declared.Row.{Row}

module _ {r x : Row} (e : r ≡ x) where
  pub level-above : 0 < r.level → eqb x.level 0 ≡ false
  level-above h = ap (λ (y : Row). eqb y.level 0) (sym e) ∙ ne_eqb r.level 0 (λ q. omega arith)

  pub level-none : r.level ≤ 0 → eqb x.level 0 ≡ true
  level-none h = ap (λ (y : Row). eqb y.level 0) (sym e) ∙ eq-eqb r.level 0 (omega arith)
