-- What is found of two texts in the words of document 02, No. 12, with no stages.
-- Assumes nothing.
use Rattle.std.specs.Prelude.{ℕ, ◌≡◌, true, false, List}
use Rattle.formula_sum.specs.Recognised.{all_recognised}
use Rattle.formula_moiety.specs.Grammar.{Moiety, IsText}
use Rattle.formula_moiety.specs.Wording.{SomeDiffers, EachSame, NoMoieties}
use Rattle.formula_totals.specs.declared.Compared.{Compared}
use Rattle.formula_totals.specs.declared.Compared.TheVariants.{Same, Differs, Unread}

-- what is found of the text t of a moiety formula and the text s of a formula: "either can't be read", "some element's total differs", or neither
pub data FoundAs (t s : List ℕ) : Compared → Type 0 where
  formula_unread : all_recognised s ≡ false → FoundAs t s Unread
  moieties_unread : NoMoieties t → FoundAs t s Unread
  some_differs : (m : Moiety) (ms : List Moiety) → all_recognised s ≡ true → IsText t m ms → SomeDiffers m ms s → FoundAs t s Differs
  each_same : (m : Moiety) (ms : List Moiety) → all_recognised s ≡ true → IsText t m ms → EachSame m ms s → FoundAs t s Same
