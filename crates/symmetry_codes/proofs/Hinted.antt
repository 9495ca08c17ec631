-- The hints, set one after the other.
-- Assumes nothing.
use mathlib.Core.Path.{◌≡◌, sym, ap, ◌∙◌}
use mathlib.Core.List.{List}
use Prim.Native.Nat.{ℕ, suc, ◌+◌, ◌%◌, ◌≤◌, ◌<◌}
use native.Mathlib.Numerals.{add-one}
use native.Mathlib.Omega.{arith}
use lib.ListN.{length, get_or, drop, set, length-set, drop_of_length-le}
use lib.Seq.{drop-cons}
use Rattle.symmetry_codes.specs.Hints.{hint_of, hints_from, hints_of}

pub record Hinted (codes : List ℕ) (i : ℕ) (hints : List ℕ) : Type 0 where
  pub within : i ≤ length codes
  pub long : length hints ≡ 4096
  pub rest : hints_of codes ≡ hints_from i (drop i codes) hints

pub hinted-more : {codes : List ℕ} {i : ℕ} {hints : List ℕ} → Hinted codes i hints → i < length codes → {k v : ℕ} → k ≡ hint_of (get_or codes i 0)
    → v ≡ i % 256 → Hinted codes (i + 1) (set hints k v)
unfolding hints_from
hinted-more {codes} {i} {hints} h l {k} {v} e f = record {
  within = omega arith;
  long = length-set hints k v ∙ h.long;
  rest = h.rest ∙ rw (add-one i, drop-cons codes i 0 l) (λ j. hints_from (suc i) (drop (suc i) codes) (set hints (sym e j) (sym f j)));
}

pub hinted-all : {codes : List ℕ} {i : ℕ} {hints : List ℕ} → Hinted codes i hints → length codes ≤ i → hints ≡ hints_of codes
unfolding hints_from
hinted-all {codes} {i} {hints} h l = sym (h.rest ∙ ap (λ m. hints_from i m hints) (drop_of_length-le codes l))
