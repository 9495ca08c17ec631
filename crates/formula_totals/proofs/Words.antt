-- The comparison is the wording of document 02, No. 12: what is found of two texts that a line can hold is what the words say, and nothing else is.
-- Assumes nothing.
use Prim.Native.Nat.{ℕ, ◌≤◌}
use mathlib.Core.Path.{◌≡◌, refl, sym, ap, subst, ◌∙◌}
use mathlib.Core.Bool.{Bool, true, false, cond}
use mathlib.Core.List.{List}
use borrow.Author.Tests.{le-leb}
use lib.ListN.{length}
use Rattle.formula_sum.specs.Recognised.{all_recognised}
use Rattle.formula_sum.specs.Sum.{most_summed}
use Rattle.formula_moiety.specs.Grammar.{Moiety}
use Rattle.formula_moiety.specs.Reading.{Whole, whole, unread, moieties_of}
use Rattle.formula_moiety.specs.Compare.{same_totals}
use Rattle.formula_moiety.proofs.Agree.{exactly, agree}
use Rattle.formula_moiety.proofs.Totals.{differs-is, each-is, is-differs, is-each}
use Rattle.formula_totals.specs.Compare.{against, compared_of}
use Rattle.formula_totals.specs.Wording.{FoundAs, formula_unread, moieties_unread, some_differs, each_same}
use Rattle.formula_totals.specs.declared.Compared.{Compared}
use Rattle.formula_totals.specs.declared.Compared.TheVariants.{Same, Differs, Unread}

module _ (t s : List ℕ) (lt : length t ≤ most_summed) (ls : length s ≤ most_summed) where
  by-formula : (b : Bool) → all_recognised s ≡ b → compared_of t s ≡ cond b (against s (moieties_of t)) Unread
  unfolding compared_of
  by-formula b e = rw (le-leb (length t) most_summed lt, le-leb (length s) most_summed ls, e) refl

  by-moieties : all_recognised s ≡ true → (w : Whole) → moieties_of t ≡ w → compared_of t s ≡ against s w
  by-moieties e w q = by-formula true e ∙ ap (against s) q

  by-totals : (m : Moiety) (ms : List Moiety) → all_recognised s ≡ true → moieties_of t ≡ whole m ms → (b : Bool) → same_totals m ms s ≡ b → compared_of t s ≡ cond b Same Differs
  by-totals m ms e q b h = by-moieties e (whole m ms) q ∙ ap (λ (x : Bool). cond x Same Differs) h

  totals-found : (m : Moiety) (ms : List Moiety) → all_recognised s ≡ true → moieties_of t ≡ whole m ms → (b : Bool) → same_totals m ms s ≡ b → FoundAs t s (cond b Same Differs)
  totals-found m ms e q true h = each_same m ms e ((exactly t m ms).0 q) (each-is m ms s h)
  totals-found m ms e q false h = some_differs m ms e ((exactly t m ms).0 q) (differs-is m ms s h)

  -- what is found is what the words say
  pub found : FoundAs t s (compared_of t s)
  found = go (all_recognised s) refl
    where
      read : all_recognised s ≡ true → (w : Whole) → moieties_of t ≡ w → FoundAs t s (compared_of t s)
      read e (whole m ms) q =
          let b = same_totals m ms s in
          subst (FoundAs t s) (sym (by-totals m ms e q b refl)) (totals-found m ms e q b refl)
      read e unread q = subst (FoundAs t s) (sym (by-moieties e unread q)) (moieties_unread (agree t unread (sym q)))

      go : (b : Bool) → all_recognised s ≡ b → FoundAs t s (compared_of t s)
      go true e = read e (moieties_of t) refl
      go false e = subst (FoundAs t s) (sym (by-formula false e)) (formula_unread e)

  -- what the words say is found
  pub found-only : (c : Compared) → FoundAs t s c → compared_of t s ≡ c
  found-only c (formula_unread e) = by-formula false e
  found-only c (moieties_unread n) = go (all_recognised s) refl (moieties_of t) refl
    where
      go : (b : Bool) → all_recognised s ≡ b → (w : Whole) → moieties_of t ≡ w → compared_of t s ≡ Unread
      go true e (whole m ms) q = absurd (n m ms ((exactly t m ms).0 q))
      go true e unread q = by-moieties e unread q
      go false e w q = by-formula false e
  found-only c (some_differs m ms e i d) = by-totals m ms e ((exactly t m ms).1 i) false (is-differs m ms s d)
  found-only c (each_same m ms e i h) = by-totals m ms e ((exactly t m ms).1 i) true (is-each m ms s h)
