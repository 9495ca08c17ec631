-- What loops that look for a code, and that look for two equal ones, keep.
-- Assumes nothing.
use mathlib.Core.Path.{◌≡◌, sym, ap, ◌∙◌}
use mathlib.Core.Bool.{Bool, true, ◌||◌, or-true}
use mathlib.Core.List.{List, [], ◌∷◌}
use Prim.Native.Nat.{ℕ, zero, suc, ◌≤◌, ◌<◌}
use native.Mathlib.Omega.{arith}
use borrow.Author.Tests.{eq-eqb}
use lib.Dec.{eqb}
use lib.ListN.{length, get_or, drop}
use Rattle.symmetry_operators.specs.Lists.{has, distinct}

-- whether the code is among the first i is known: it was found, or what is left decides
pub record Searched (s : List ℕ) (c i : ℕ) (found : Bool) : Type 0 where
  pub within : i ≤ length s
  pub rest : has eqb s c ≡ (found || has eqb (drop i s) c)

-- a code at a place is there
pub is_there : (s : List ℕ) (c i : ℕ) → i < length s → get_or s i 0 ≡ c → true ≡ has eqb s c
is_there [] c i l e = absurd (omega arith)
is_there (a ∷ s) c zero l e = rw (eq-eqb c a (sym e))
is_there (a ∷ s) c (suc i) l e = sym (ap (λ (t : Bool). eqb c a || t) (sym (is_there s c i (omega arith) e)) ∙ or-true (eqb c a))

-- none twice so far: what is left decides
pub record Different (s : List ℕ) (i : ℕ) : Type 0 where
  pub within : i ≤ length s
  pub rest : distinct eqb s ≡ distinct eqb (drop i s)
