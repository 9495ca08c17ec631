-- Laws of numbers in decimal: a list of digits that is filled from its end.
-- Assumes nothing.
use mathlib.Core.Path.{◌≡◌, sym, ap, ◌∙◌}
use mathlib.Core.List.{List, ◌∷◌, ◌++◌}
use Prim.Native.Nat.{ℕ, suc, ◌/◌, ◌%◌, ◌≤◌, ◌<◌}
use borrow.Author.Tests.{lt-ltb, le-ltb}
use native.Mathlib.Omega.{arith}
use lib.ListN.{length, take, drop, set}
use lib.Seq.{append_snoc, set_split, drop_at, length-take-le}
use Rattle.number_decimal.specs.Digits.{digit, last_digits}

drop-set : (ds : List ℕ) (i d : ℕ) → i < length ds → drop i (set ds i d) ≡ d ∷ drop (suc i) ds
drop-set ds i d h =
    let short : i ≤ length ds = omega arith in
    ap (drop i) (set_split ds i d h) ∙ drop_at (take i ds) (d ∷ drop (suc i) ds) i (length-take-le i ds short)

-- the first digit of all is set
pub first-digit : (ds : List ℕ) (i n : ℕ) → i < length ds → n < 10 → last_digits (suc i) n ++ drop (suc i) ds ≡ drop i (set ds i (digit (n % 10)))
unfolding last_digits
first-digit ds i n h small = rw (lt-ltb n 10 small) (sym (drop-set ds i (digit (n % 10)) h))

-- the last of several digits is set, and the others are left
pub later-digit : (ds : List ℕ) (i n : ℕ) → i < length ds → 10 ≤ n
    → last_digits (suc i) n ++ drop (suc i) ds ≡ last_digits i (n / 10) ++ drop i (set ds i (digit (n % 10)))
unfolding last_digits
later-digit ds i n h large =
    rw (le-ltb n 10 large) (append_snoc (last_digits i (n / 10)) (digit (n % 10)) (drop (suc i) ds)
    ∙ ap (λ (l : List ℕ). last_digits i (n / 10) ++ l) (sym (drop-set ds i (digit (n % 10)) h)))
