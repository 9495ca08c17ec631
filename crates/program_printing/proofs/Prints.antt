-- Laws of printing into bytes that are lent.
-- Assumes nothing.
use mathlib.Core.Path.{◌≡◌}
use mathlib.Core.List.{List}
use Prim.Native.Nat.{ℕ, ◌≤◌}
use native.Mathlib.Omega.{arith}
use borrow.Author.Tests.{leb-true}
use Rattle.std.specs.Prelude.{Some, None}
use lib.Dec.{leb}
use lib.ListN.{length}
use Rattle.text.proofs.Bools.{cond-first}
use Rattle.program_printing.specs.Print.{printed_in}

-- no more bytes are printed than are lent
pub printed-within : (out t : List ℕ) (n : ℕ) → printed_in out t ≡ Some n → n ≤ length out
unfolding printed_in
printed-within out t n e =
    let h = cond-first (leb (length t) (length out)) (Some (length t)) None (Some n) (λ q. cc) e in
    let q = h.1 in
    let l : length t ≡ n = cc in
    omega (arith, leb-true (length t) (length out) h.0)
