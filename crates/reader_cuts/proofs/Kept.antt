-- Laws of the record whose first bytes were kept: so many bytes of the part as there are, or as make a longest record, are put behind them, and decide it if it can
-- be decided.
-- Assumes nothing.
use mathlib.Core.Path.{◌≡◌, refl, sym, ap, ◌∙◌}
use mathlib.Core.Bool.{Bool, true, false}
use mathlib.Core.List.{List, ◌++◌, append_assoc}
use mathlib.Core.Logic.{◌⊎◌, inl, inr}
use Prim.Native.Nat.{ℕ, ◌+◌, ◌-◌, ◌≤◌, ◌<◌}
use native.Mathlib.Omega.{arith}
use borrow.Author.Tests.{ltb-true, ltb-false}
use lib.Dec.{ltb}
use lib.ListN.{length, take, drop, length-append, take-append-drop}
use lib.Seq.{take_all, length-take-le, drop-append-le, drop-append-add}
use Rattle.desk_log.specs.Record.{head_length, length_told}
use Rattle.reader_cuts.specs.Reading.{length_least, length_most, undecided, ended, short, read_all}
use Rattle.reader_cuts.specs.First.{First}
use Rattle.reader_cuts.proofs.Laws.{length_front}
use Rattle.reader_cuts.proofs.Firsts.{Goes, read-undecided, undecided-short, undecided-less}

module _ {S : Type 0} (refusal : ℕ → List ℕ → S → ℕ) (store : List ℕ → S → S) (last : Bool) (s : S) (at : ℕ) (xs part : List ℕ) (m : ℕ) (within : m ≤ length part)
    (f : First S) (g : Goes refusal store s at (xs ++ take m part) f) where
  -- the kept bytes and the part are those that are looked at and the rest of the part
  seam : xs ++ part ≡ (xs ++ take m part) ++ drop m part
  seam = ap (λ (y : List ℕ). xs ++ y) (sym (take-append-drop m part)) ∙ sym (append_assoc xs (take m part) (drop m part))

  pub kept-stops : (f.answer ≡ 0 → ⊥) → read_all refusal store last s at (xs ++ part) ≡ ended f.answer s at
  kept-stops ne = ap (read_all refusal store last s at) seam ∙ g.stops last (drop m part) ne

  -- where they do not decide it, they are the whole part
  pub kept-waits : f.bytes ≡ 0 → f.answer ≡ 0 → (m < length part → length_most ≤ length xs + m) → (take m part ≡ part)
      × (read_all refusal store last s at (xs ++ part) ≡ short last s at (xs ++ take m part))
  kept-waits z e full =
      let u = g.waits z e in
      let l = undecided-short (xs ++ take m part) u in
      let long : length (xs ++ take m part) ≡ length xs + m = length-append xs (take m part) ∙ ap (λ (k : ℕ). length xs + k) (length-take-le m part within) in
      let whole : take m part ≡ part = take_all m part (no-rest l long) in
      (whole, ap (λ (y : List ℕ). read_all refusal store last s at (xs ++ y)) (sym whole) ∙ read-undecided refusal store last s at (xs ++ take m part) u)
    where
      no-rest : length (xs ++ take m part) < length_most → length (xs ++ take m part) ≡ length xs + m → length part ≤ m
      no-rest l long = go (ltb m (length part)) refl
        where
          go : (b : Bool) → ltb m (length part) ≡ b → length part ≤ m
          go true p = let q = full (ltb-true m (length part) p) in absurd (omega (arith, q, l, long))
          go false p = ltb-false m (length part) p

  module _ (u : undecided xs ≡ true) (ne : f.bytes ≡ 0 → ⊥) where
    -- the kept bytes are fewer than the record's
    pub kept_less : length xs < f.bytes
    kept_less = go (ltb (length xs) head_length) refl
      where
        lo : length_least ≤ f.bytes
        lo = (g.took ne).0

        go : (b : Bool) → ltb (length xs) head_length ≡ b → length xs < f.bytes
        go true p = omega (arith, ltb-true (length xs) head_length p, lo)
        go false p = pick (undecided-less xs u)
          where
            six : head_length ≤ length xs
            six = ltb-false (length xs) head_length p

            pick : (length xs < head_length) ⊎ (length xs < length_told xs) → length xs < f.bytes
            pick (inl l) = omega (arith, l, six)
            pick (inr l) = let e = g.told ne ∙ length_front xs (take m part) six in omega (arith, e, l)

    -- a record is taken: the part is read on behind it
    pub kept_goes : read_all refusal store last s at (xs ++ part) ≡ read_all refusal store last f.sheets f.at (drop (f.bytes - length xs) part)
    kept_goes =
        let k : ℕ = f.bytes - length xs in
        let l = kept_less in
        let w = g.within in
        let long = length-append xs (take m part) ∙ ap (λ (i : ℕ). length xs + i) (length-take-le m part within) in
        let e : length xs + k ≡ f.bytes = omega (arith, l) in
        let le : k ≤ length (take m part) = omega (arith, w, long, length-take-le m part within, e) in
        let front : drop f.bytes (xs ++ take m part) ≡ drop k (take m part) = ap (λ (i : ℕ). drop i (xs ++ take m part)) (sym e) ∙ drop-append-add xs (take m part) k in
        let rest : drop f.bytes (xs ++ take m part) ++ drop m part ≡ drop k part
        = ap (λ (y : List ℕ). y ++ drop m part) front ∙ sym (drop-append-le k (take m part) (drop m part) le) ∙ ap (drop k) (take-append-drop m part) in
        ap (read_all refusal store last s at) seam ∙ g.goes last (drop m part) ne ∙ ap (read_all refusal store last f.sheets f.at) rest
