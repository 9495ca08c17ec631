-- The cases of `term_of`.
-- Assumes nothing.
use Rattle.std.specs.Prelude.{None}
use mathlib.Core.Path.{◌≡◌}
use mathlib.Core.Bool.{Bool, true, false}
use mathlib.Core.List.{List}
use Prim.Native.Nat.{ℕ, ◌<◌}
use borrow.Author.Tests.{ltb-true}
use lib.Dec.{ltb}
use lib.ListN.{length, get_or, drop}
use Rattle.text.specs.Run.{is_capital, is_small, kind_at}
use Rattle.text.proofs.Bools.{and_both}
use Rattle.formula_terms.specs.Term.{count_of, with_count, term_of}

pub kind-within : (p : ℕ → Bool) (s : List ℕ) (at : ℕ) → kind_at p s at ≡ true → at < length s
unfolding kind_at
kind-within p s at e = ltb-true _ _ (and_both (ltb at (length s)) _ e).0

pub kind-byte : (p : ℕ → Bool) (s : List ℕ) (at : ℕ) → kind_at p s at ≡ true → p (get_or s at 0) ≡ true
unfolding kind_at
kind-byte p s at e = (and_both (ltb at (length s)) _ e).1

module _ (t : List ℕ) where
  pub no-capital : kind_at is_capital t 0 ≡ false → term_of t ≡ None
  unfolding term_of
  no-capital e = rw e

  module _ (capital : kind_at is_capital t 0 ≡ true) where
    pub two-letters : kind_at is_small t 1 ≡ true → term_of t ≡ with_count (get_or t 0 0) (get_or t 1 0) (count_of (drop 2 t))
    unfolding term_of
    two-letters e = rw (capital, e)

    pub one-letter : kind_at is_small t 1 ≡ false → term_of t ≡ with_count (get_or t 0 0) 32 (count_of (drop 1 t))
    unfolding term_of
    one-letter e = rw (capital, e)
