-- The theorem of the cuts: however a log is cut into parts, the reading is that of the bytes so far, and after the last part that of the whole log.
-- Assumes nothing.
use mathlib.Core.Path.{◌≡◌, refl, sym, ap, ◌∙◌}
use mathlib.Core.Bool.{Bool, true, false}
use mathlib.Core.List.{List, [], ◌∷◌, ◌++◌, append_assoc, append-nil}
use Prim.Native.Nat.{ℕ}
use native.Mathlib.Omega.{arith}
use lib.ListN.{take}
use Rattle.desk_log.specs.Record.{length_told}
use Rattle.reader_cuts.specs.Reading.{Reading, waiting, ended, short, read_all, read_whole, feed, feeds}
use Rattle.reader_cuts.specs.Called.{all_bytes, unmarked}
use Rattle.reader_cuts.proofs.Laws.{read-few, front-bad, front-refused, front-taken, every-reading}

module _ {S : Type 0} (refusal : ℕ → List ℕ → S → ℕ) (store : List ℕ → S → S) where
  abbrev all : Bool → S → ℕ → List ℕ → Reading S
  all = read_all refusal store

  abbrev fd : Reading S → List ℕ → Bool → Reading S
  fd = feed refusal store

  -- a reading that is over stays
  pub feed-over : (r : Reading S) (p : List ℕ) (last : Bool) → r.over ≡ true → fd r p last ≡ r
  unfolding feed
  feed-over r p last e = rw e

  pub feeds-over : (r : Reading S) (cs : List (List ℕ × Bool)) → r.over ≡ true → feeds refusal store r cs ≡ r
  feeds-over r [] e = refl
  feeds-over r (c ∷ cs) e = ap (λ (x : Reading S). feeds refusal store x cs) (feed-over r c.0 c.1 e) ∙ feeds-over r cs e

  feed-waiting : (s : S) (at : ℕ) (xs ys : List ℕ) (last : Bool) → fd (waiting s at xs) ys last ≡ all last s at (xs ++ ys)
  unfolding feed
  feed-waiting s at xs ys last = refl

  -- two parts are one
  pub next-part : (last : Bool) (s : S) (at : ℕ) (xs ys : List ℕ) → fd (all false s at xs) ys last ≡ all last s at (xs ++ ys)
  next-part last s at xs ys =
      every-reading refusal store false (λ t k zs r. fd r ys last ≡ all last t k (zs ++ ys))
      (λ t k zs u. feed-waiting t k zs ys last)
      (λ t k zs h b. feed-over (ended 18 t k) ys last refl ∙ sym (front-bad refusal store last t k zs ys h b))
      (λ t k zs h g w e. feed-over (ended (refusal k (take (length_told zs) zs) t) t k) ys last refl ∙ sym (front-refused refusal store last t k zs ys h g w e))
      (λ t k zs r h g w e ih. ih ∙ sym (front-taken refusal store last t k zs ys h g w e))
      s at xs

  -- after any parts that are not the last the reading is that of the bytes so far
  so-far : (s : S) (bs : List ℕ) (ps : List (List ℕ)) → feeds refusal store (all false s 0 bs) (unmarked ps) ≡ all false s 0 (bs ++ all_bytes ps)
  so-far s bs [] = ap (all false s 0) (sym (append-nil bs))
  so-far s bs (p ∷ ps) =
      ap (λ (r : Reading S). feeds refusal store r (unmarked ps)) (next-part false s 0 bs p) ∙ so-far s (bs ++ p) ps
      ∙ ap (all false s 0) (append_assoc bs p (all_bytes ps))

  pub parts-so-far : (s : S) (ps : List (List ℕ)) → feeds refusal store (waiting s 0 []) (unmarked ps) ≡ all false s 0 (all_bytes ps)
  parts-so-far s ps =
      let e : all false s 0 [] ≡ waiting s 0 [] = read-few refusal store false s 0 [] (omega arith) in
      ap (λ (r : Reading S). feeds refusal store r (unmarked ps)) (sym e) ∙ so-far s [] ps

  short-over : (s : S) (at : ℕ) (bs : List ℕ) → (short true s at bs).over ≡ true
  short-over s at [] = refl
  short-over s at (b ∷ bs) = refl

  -- what is read to its end is over
  pub whole-over : (s : S) (at : ℕ) (bs : List ℕ) → (all true s at bs).over ≡ true
  whole-over s at bs =
      every-reading refusal store true (λ t k cs r. r.over ≡ true) (λ t k cs u. short-over t k cs) (λ t k cs h b. refl) (λ t k cs h g w e. refl)
      (λ t k cs r h g w e p. p) s at bs

  -- any parts, the last marked, and any further ones with any marks
  pub cuts : (s : S) (ps : List (List ℕ)) (p : List ℕ) (more : List (List ℕ × Bool))
      → feeds refusal store (feed refusal store (feeds refusal store (waiting s 0 []) (unmarked ps)) p true) more ≡ read_whole refusal store s (all_bytes ps ++ p)
  cuts s ps p more =
      let e = ap (λ (r : Reading S). fd r p true) (parts-so-far s ps) ∙ next-part true s 0 (all_bytes ps) p in
      ap (λ (r : Reading S). feeds refusal store r more) e
      ∙ feeds-over (read_whole refusal store s (all_bytes ps ++ p)) more (whole-over s 0 (all_bytes ps ++ p))
