-- `rows_threshold::inside` meets its contract: the text is p, what stands inside, and q.
-- Assumes nothing.
use Rattle.std.specs.Prelude.{Option, Some, None, MatchOption}
use Rattle.std.proofs.lemmas.Slice.Eq.{strip_prefix_is, strip_suffix_is}
use Rattle.std.proofs.lemmas.Bool.Decides.{Decides-eqb}
use mathlib.Core.Path.{◌≡◌}
use mathlib.Core.Bool.{true, false}
use mathlib.Core.Logic.{◌≢◌}
use mathlib.Core.List.{List, ◌++◌}
use Prim.Native.Nat.{ℕ}
use denote.Ref.{Bor}
use Rattle.rows_threshold.specs.Threshold.{has_shape, inside_of}
use Rattle.rows_threshold.proofs.Wording.{no-first, no-last, shape-at}
use Rattle.rows_threshold.proofs.inside.Goals as goal

-- the text is p and then y, by what ends y
ended : (p q t y : List ℕ) → t ≡ p ++ y → (r : Option (Bor (List ℕ))) → MatchOption r ((front : List ℕ) → y ≢ front ++ q) (λ x. y ≡ x.now ++ q)
    → MatchOption r (has_shape p q t ≡ false) (λ x. (has_shape p q t ≡ true) × (x.now ≡ inside_of p q t))
ended p q t y e None h = no-last p q t y e h
ended p q t y e (Some x) h = shape-at p q t y x.now e h

pub returns-in_err-strip_prefix : goal.returns-in_err-strip_prefix
returns-in_err-strip_prefix c = rw c.from_residual.ensures (no-first _ _ _ (strip_prefix_is Decides-eqb _ _ None c.in_err-strip_prefix.ensures.cases))

pub returns : goal.returns
returns c =
    ended _ _ _ _ (strip_prefix_is Decides-eqb _ _ (Some c.in_ok-strip_prefix.field-0) c.in_ok-strip_prefix.ensures.cases) c.strip_suffix.result
    (strip_suffix_is Decides-eqb _ _ _ c.strip_suffix.ensures.cases)
