-- Laws of quoted values.
-- Assumes nothing.
use mathlib.Core.Path.{◌≡◌, ap}
use mathlib.Core.Bool.{true}
use mathlib.Core.Logic.{⊎_elim}
use mathlib.Core.List.{List}
use Prim.Native.Nat.{ℕ, ◌-◌, ◌≤◌}
use native.Mathlib.Omega.{arith}
use borrow.Author.Tests.{leb-true}
use lib.Dec.{leb}
use lib.ListN.{length, take, drop}
use Rattle.text.proofs.Bools.{and_both, or-either}
use Rattle.line_quotes.specs.Quoted.{inner, is_quoted_by, is_quoted}

quoted-by-long : (q : ℕ) (t : List ℕ) → is_quoted_by q t ≡ true → 2 ≤ length t
unfolding is_quoted_by
quoted-by-long q t e = leb-true 2 (length t) (and_both (leb 2 (length t)) _ e).0

-- a quoted value has its two marks
pub quoted-long : (t : List ℕ) → is_quoted t ≡ true → 2 ≤ length t
unfolding is_quoted
quoted-long t e = ⊎_elim (quoted-by-long 39 t) (quoted-by-long 34 t) (or-either (is_quoted_by 39 t) (is_quoted_by 34 t) e)

-- the part between the marks, as the code takes it
pub inner-part : (t : List ℕ) → take (length t - 1 - 1) (drop 1 t) ≡ inner t
inner-part t = let e : length t - 1 - 1 ≡ length t - 2 = omega arith in ap (λ (n : ℕ). take n (drop 1 t)) e
