-- Laws of `fresh_lent`: its two cases, and that what it leaves is a fresh desk.
-- Assumes nothing.
use mathlib.Core.Path.{◌≡◌, sym, ap, ◌∙◌}
use mathlib.Core.Bool.{true, false}
use mathlib.Core.List.{List}
use Prim.Native.Nat.{ℕ}
use lib.ListN.{length, replicate}
use Rattle.desk_state.specs.Desks.{fresh_desk}
use Rattle.desk_memory.specs.Memory.{texts_length, numbers_length, is_desk, desk_of, used_of}
use Rattle.desk_memory.proofs.Desks.{desk-sized, zeros-fresh}
use Rattle.export_desk.specs.Told.{Freshened, freshened, fresh_lent}

module _ (t n : List ℕ) where
  pub not-freshened : is_desk t n ≡ false → freshened 2 t n ≡ fresh_lent t n
  unfolding fresh_lent
  not-freshened e = simp e

  module _ (d : is_desk t n ≡ true) where
    zeros : fresh_lent t n ≡ freshened 0 (replicate texts_length 0) (replicate numbers_length 0)
    unfolding fresh_lent
    zeros = simp d

    pub are-zeros : {t' n' : List ℕ} → t' ≡ replicate (length t) 0 → n' ≡ replicate (length n) 0 → freshened 0 t' n' ≡ fresh_lent t n
    are-zeros {t'} {n'} p q =
        let z = desk-sized t n d in
        let x = p ∙ ap (λ (k : ℕ). replicate k 0) z.texts in
        let y = q ∙ ap (λ (k : ℕ). replicate k 0) z.numbers in
        ap (λ (l : List ℕ). freshened 0 l n') x ∙ ap (freshened 0 (replicate texts_length 0)) y ∙ sym zeros

    -- memory of a desk's lengths, made fresh, holds a fresh desk, and nothing of its log is used
    pub fresh-held : (is_desk (fresh_lent t n).texts (fresh_lent t n).numbers ≡ true) × (desk_of (fresh_lent t n).texts (fresh_lent t n).numbers ≡ fresh_desk)
        × (used_of (fresh_lent t n).numbers ≡ 0)
    fresh-held =
        let f = zeros-fresh in (
          ap (λ (r : Freshened). is_desk r.texts r.numbers) zeros ∙ f.0,
          ap (λ (r : Freshened). desk_of r.texts r.numbers) zeros ∙ f.1,
          ap (λ (r : Freshened). used_of r.numbers) zeros ∙ f.2,
        )
