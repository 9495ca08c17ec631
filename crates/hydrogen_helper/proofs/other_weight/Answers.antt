-- `hydrogen_helper::other_weight` meets its contract: it is the sum of what the writer gives without hydrogen, which is small.
-- Assumes nothing.
use Rattle.std.specs.Prelude.{Option, Some, None, unwrap_or}
use native.Mathlib.Omega.{arith}
use mathlib.Core.Path.{◌≡◌, refl, sym, ap, subst⁻¹, ◌∙◌}
use Prim.Native.Nat.{ℕ, ◌^◌, ◌<◌}
use mathlib.Core.List.{List}
use Rattle.line_quotes.specs.Quoted.{text_of}
use Rattle.formula_sum.specs.Sum.{sum_of}
use Rattle.formula_sum.proofs.Small.{sum-small}
use Rattle.hydrogen_helper.specs.Helper.{weight_or, other_weight}
use Rattle.hydrogen_helper.proofs.other_weight.Goals as goal

-- the sum, or 0, is small
weighed : (s : List ℕ) (x : Option ℕ) → sum_of s ≡ x → (unwrap_or x 0 ≡ weight_or x) × (unwrap_or x 0 < 10 ^ 13)
weighed s (Some n) e = (refl, sum-small s n e)
weighed s None e = (refl, omega arith)

pub returns : goal.returns
unfolding other_weight
returns c =
    let summed = c.sum_of.ensures ∙ ap sum_of (c.text_of.ensures ∙ ap text_of (c.written.ensures ∙ c.typed_with-typed.ensures)) in
    let w = weighed _ c.sum_of.result (sym c.sum_of.ensures) in
    (c.unwrap_or.ensures ∙ w.0 ∙ ap weight_or summed, subst⁻¹ (λ (n : ℕ). n < 10 ^ 13) c.unwrap_or.ensures w.1)
