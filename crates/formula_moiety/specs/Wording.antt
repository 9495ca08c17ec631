-- "Some element's total differs" in the words of document 02, No. 12: over every symbol that is recognised.
-- Assumes nothing.
use Rattle.std.specs.Prelude.{ℕ, ◌≡◌, List, Some}
use Rattle.formula_elements.specs.Elements.{element_of}
use Rattle.formula_moiety.specs.Amounts.{formula_total}
use Rattle.formula_moiety.specs.Grammar.{Moiety, IsText}
use Rattle.formula_moiety.specs.Totals.{total_all}

-- "some element's total differs": that of the symbol a b, which is the element k
pub record SomeDiffers (m : Moiety) (ms : List Moiety) (s : List ℕ) : Type 0 where
  pub a : ℕ
  pub b : ℕ
  pub k : ℕ
  pub symbol : element_of a b ≡ Some k
  pub differs : total_all m ms k ≡ formula_total s k → ⊥

-- no element's does
abbrev pub EachSame : Moiety → List Moiety → List ℕ → Type 0
EachSame m ms s = (a b k : ℕ) → element_of a b ≡ Some k → total_all m ms k ≡ formula_total s k

-- "can't be read": the text t is that of no moieties of the house subset
abbrev pub NoMoieties : List ℕ → Type 0
NoMoieties t = (m : Moiety) (ms : List Moiety) → IsText t m ms → ⊥
