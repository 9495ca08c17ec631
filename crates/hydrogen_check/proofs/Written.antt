-- What the writer gives tells whether the new text is short enough.
-- Assumes nothing.
use Prim.Native.Nat.{ℕ}
use mathlib.Core.Path.{◌≡◌, refl, ap}
use mathlib.Core.Bool.{Bool, true, false, cond}
use mathlib.Core.List.{List, []}
use native.Mathlib.Omega.{arith}
use lib.Dec.{leb}
use lib.ListN.{length}
use Rattle.hydrogen_text.specs.Hydrogens.{most_text_bytes, in_quotes}
use Rattle.hydrogen_text.specs.NewText.{new_text}
use Rattle.hydrogen_writer.specs.Typed.{typed_with}

module _ (n : ℕ) (s : List ℕ) where
  -- nothing is written where it is too long
  pub empty-long : [] ≡ typed_with n s → leb (length (new_text n s)) most_text_bytes ≡ false
  unfolding typed_with
  empty-long e = go (leb (length (new_text n s)) most_text_bytes) e
    where
      go : (b : Bool) → [] ≡ cond b (in_quotes (new_text n s)) [] → b ≡ false
      go true e = let z : ◌≡◌ {A = ℕ} 0 1 = cc in absurd (omega arith)
      go false e = refl

  -- what is written is the text as it is typed
  pub some-short : (v : List ℕ) → v ≡ typed_with n s → (length v ≡ 0 → ⊥) → (leb (length (new_text n s)) most_text_bytes ≡ true) × (v ≡ in_quotes (new_text n s))
  unfolding typed_with
  some-short v e some = go (leb (length (new_text n s)) most_text_bytes) e
    where
      go : (b : Bool) → v ≡ cond b (in_quotes (new_text n s)) [] → (b ≡ true) × (v ≡ in_quotes (new_text n s))
      go true e = (refl, e)
      go false e = absurd (some (ap length e))
