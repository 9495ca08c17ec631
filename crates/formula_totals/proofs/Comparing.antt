-- The cases of the comparison, one for each return of the code.
-- Assumes nothing.
use Rattle.std.specs.Prelude.{Option, Some, None}
use Rattle.std.specs.Option.{is_some}
use Prim.Native.Nat.{ℕ, ◌+◌, ◌≤◌, ◌<◌}
use mathlib.Core.Path.{◌≡◌, refl, sym, ap, ◌∙◌}
use mathlib.Core.Bool.{Bool, true, false, cond, not}
use mathlib.Core.List.{List}
use native.Mathlib.Omega.{arith}
use native.Mathlib.Nat.{zero-add}
use borrow.Author.Tests.{le-leb, lt-leb}
use lib.Dec.{eqb}
use lib.ListN.{length, get_or, replicate}
use Rattle.formula_elements.specs.Elements.{element_count}
use Rattle.formula_sum.specs.Sum.{most_summed}
use Rattle.formula_moiety.specs.Amounts.{formula_total}
use Rattle.formula_moiety.specs.Compare.{every_below, same_total}
use Rattle.formula_moiety.proofs.Every.{every-same}
use Rattle.formula_moiety.specs.Grammar.{most_deep}
use Rattle.formula_moiety.specs.Reading.{Whole, whole, unread, whole_text_of, moieties_of}
use Rattle.formula_moiety.specs.Totals.{total_all, most}
use Rattle.formula_totals.specs.Counters.{Added}
use Rattle.formula_totals.specs.Left.{AllLeft, WholeLeft, Room}
use Rattle.formula_totals.proofs.Counters.{zero-at}
use Rattle.formula_totals.specs.Compare.{against, compared_of}
use Rattle.formula_totals.specs.Counting.{TermRoom, FormulaLeft}
use Rattle.formula_totals.specs.declared.Compared.TheVariants.{Same, Differs, Unread}

abbrev pub zeros : List ℕ
zeros = replicate {A = ℕ} element_count 0

pub moiety-room : (m : List ℕ) → length m ≤ most_summed → Room most_deep m zeros
unfolding most
moiety-room m h = record { long = refl; room = λ k. omega (arith, zero-at element_count k) }

pub formula-room : (s : List ℕ) → length s ≤ most_summed → TermRoom s zeros
formula-room s h = record { long = refl; room = λ k. omega (arith, zero-at element_count k) }

-- the counters are the totals
counted : (have : List ℕ) (total : ℕ → ℕ) → Added zeros have total → (k : ℕ) → get_or have k 0 ≡ total k
counted have total a k = a k ∙ ap (λ (x : ℕ). x + total k) (zero-at element_count k) ∙ zero-add (total k)

none-some : ◌≡◌ {A = Option (Unit {0})} None (Some tt) → ⊥
none-some e = cc

-- what `is_none` says of what was counted
pub uncounted : (x : Option (Unit {0})) (b : Bool) → is_some x ≡ not b → b ≡ true → x ≡ None
uncounted x true e q = go x e
  where
    go : (x : Option (Unit {0})) → is_some x ≡ false → x ≡ None
    go (Some u) e = cc
    go None e = refl
uncounted x false e q = cc

pub were-counted : (x : Option (Unit {0})) (b : Bool) → is_some x ≡ not b → b ≡ false → x ≡ Some tt
were-counted x true e q = cc
were-counted x false e q = go x e
  where
    go : (x : Option (Unit {0})) → is_some x ≡ true → x ≡ Some tt
    go (Some u) e = refl
    go None e = cc

module _ (m have : List ℕ) where
  against-unread : (s : List ℕ) → WholeLeft m zeros have None → against s (moieties_of m) ≡ Unread
  unfolding WholeLeft moieties_of
  against-unread s w = go (whole_text_of (length m + 1) m) (w (length m + 1) (omega arith))
    where
      go : (x : Whole) → AllLeft zeros have None x → against s x ≡ Unread
      go (whole n ns) t = absurd (none-some t.0)
      go unread t = refl

  against-counts : (s : List ℕ) → WholeLeft m zeros have (Some tt) → against s (moieties_of m) ≡ cond (every_below element_count (λ (k : ℕ). eqb (get_or have k 0) (formula_total s k))) Same Differs
  unfolding WholeLeft moieties_of
  against-counts s w = go (whole_text_of (length m + 1) m) (w (length m + 1) (omega arith))
    where
      go : (x : Whole) → AllLeft zeros have (Some tt) x → against s x ≡ cond (every_below element_count (λ (k : ℕ). eqb (get_or have k 0) (formula_total s k))) Same Differs
      go (whole n ns) t =
          ap (λ (b : Bool). cond b Same Differs)
          (every-same element_count (same_total n ns s) (λ (k : ℕ). eqb (get_or have k 0) (formula_total s k)) (λ k. ap (λ (x : ℕ). eqb x (formula_total s k)) (sym (counted have (total_all n ns) t.1 k))))
      go unread t = absurd (none-some (sym t))

module _ (m s : List ℕ) where
  pub long-moiety : most_summed < length m → compared_of m s ≡ Unread
  unfolding compared_of
  long-moiety h = rw (lt-leb (length m) most_summed h)

  module _ (a : length m ≤ most_summed) where
    pub long-formula : most_summed < length s → compared_of m s ≡ Unread
    unfolding compared_of
    long-formula h = rw (le-leb (length m) most_summed a, lt-leb (length s) most_summed h)

    module _ (b : length s ≤ most_summed) where
      pub bad-formula : (want : List ℕ) → FormulaLeft s zeros want None → compared_of m s ≡ Unread
      unfolding compared_of
      bad-formula want f = rw (le-leb (length m) most_summed a, le-leb (length s) most_summed b, ← f.all)

      module _ (want have : List ℕ) (f : FormulaLeft s zeros want (Some tt)) where
        pub bad-moiety : WholeLeft m zeros have None → compared_of m s ≡ Unread
        unfolding compared_of
        bad-moiety w = rw (le-leb (length m) most_summed a, le-leb (length s) most_summed b, ← f.all) (against-unread m have s w)

        pub both_read : WholeLeft m zeros have (Some tt) → compared_of m s ≡ cond (every_below element_count (λ (k : ℕ). eqb (get_or have k 0) (get_or want k 0))) Same Differs
        unfolding compared_of
        both_read w =
            rw (le-leb (length m) most_summed a, le-leb (length s) most_summed b, ← f.all)
            (against-counts m have s w
            ∙ ap (λ (x : Bool). cond x Same Differs)
            (every-same element_count (λ (k : ℕ). eqb (get_or have k 0) (formula_total s k)) (λ (k : ℕ). eqb (get_or have k 0) (get_or want k 0)) (λ k. ap (eqb (get_or have k 0)) (sym (counted want (formula_total s) (f.adds refl) k)))))
