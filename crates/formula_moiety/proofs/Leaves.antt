-- The terms and counts that are read are those of the document's wording. Assumes nothing.
use Rattle.std.specs.Prelude.{Option, Some, None}
use Prim.Native.Nat.{ℕ}
use mathlib.Core.Path.{◌≡◌, refl, ap, ◌∙◌}
use mathlib.Core.Bool.{true, false≢true}
use mathlib.Core.List.{List}
use borrow.Author.Tests.{leb-true, le-leb}
use Rattle.formula_terms.specs.Term.{count_of, term_of}
use Rattle.formula_terms.proofs.Wording.{term_is, term-of, count-is, count-of}
use Rattle.formula_terms.specs.declared.term.Term.{Term}
use Rattle.formula_sum.specs.Recognised.{is_recognised}
use Rattle.formula_moiety.specs.Grammar.{most_times, IsTimes, IsLeaf}
use Rattle.formula_moiety.specs.Reading.{few_times, is_times}

module _ (w : List ℕ) where
  pub is_leaf : is_recognised (term_of w) ≡ true → IsLeaf w
  is_leaf e = go (term_of w) refl e
    where
      go : (x : Option Term) → term_of w ≡ x → is_recognised x ≡ true → IsLeaf w
      go (Some t) q h = record { a = t.symbol.first; b = t.symbol.second; n = t.count; is = term_is w t.symbol.first t.symbol.second t.count q; known = h }
      go None q h = absurd (false≢true h)

  pub leaf-read : IsLeaf w → is_recognised (term_of w) ≡ true
  leaf-read l = ap is_recognised (term-of w l.a l.b l.n l.is) ∙ l.known

module _ (c : List ℕ) where
  pub is-times : is_times c ≡ true → IsTimes c
  is-times e = go (count_of c) refl e
    where
      go : (x : Option ℕ) → count_of c ≡ x → few_times x ≡ true → IsTimes c
      go (Some n) q h = record { n = n; is = count-is c n q; few = leb-true n most_times h }
      go None q h = absurd (false≢true h)

  pub times-read : IsTimes c → is_times c ≡ true
  times-read t = ap few_times (count-of t.is) ∙ le-leb t.n most_times t.few
