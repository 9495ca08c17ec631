-- The cases of the count after a bracket, and what a count that was read says.
-- Assumes nothing.
use Rattle.std.specs.Prelude.{Option, Some, None}
use Prim.Native.Nat.{ℕ, ◌≤◌, ◌<◌}
use mathlib.Core.Path.{◌≡◌, refl, sym, ap, ◌∙◌}
use mathlib.Core.Bool.{Bool, true, false, cond}
use mathlib.Core.List.{List}
use native.Mathlib.Omega.{arith}
use borrow.Author.Tests.{le-leb, lt-leb, leb-true}
use Rattle.text.proofs.Bools.{cond-first}
use Rattle.formula_terms.specs.Term.{count_of}
use Rattle.formula_moiety.specs.Grammar.{most_times}
use Rattle.formula_moiety.specs.Reading.{few_times, is_times, bracket_count}

module _ (c : List ℕ) where
  pub no-times : count_of c ≡ None → bracket_count c ≡ None
  unfolding bracket_count
  no-times e = rw e

  module _ (n : ℕ) (e : count_of c ≡ Some n) where
    pub too_many : most_times < n → bracket_count c ≡ None
    unfolding bracket_count
    too_many h = rw (e, lt-leb n most_times h)

    pub few-times : n ≤ most_times → bracket_count c ≡ Some n
    unfolding bracket_count
    few-times h = rw (e, le-leb n most_times h)

  -- a count that was read
  pub times-read : (n : ℕ) → bracket_count c ≡ Some n → (is_times c ≡ true) × ((count_of c ≡ Some n) × (n ≤ most_times))
  unfolding bracket_count
  times-read n e =
      let none : None ≡ Some n → ⊥ = λ q. let z : ◌≡◌ {A = ℕ} 0 1 = cc in omega arith in
      let h = cond-first (is_times c) (count_of c) None (Some n) none e in
      (h.0, (h.1, leb-true n most_times (sym (ap few_times h.1) ∙ h.0)))

  -- and where none was there is none
  pub times-unread : bracket_count c ≡ None → is_times c ≡ false
  unfolding bracket_count
  times-unread e = go (count_of c) refl (is_times c) refl e
    where
      go : (x : Option ℕ) → count_of c ≡ x → (b : Bool) → few_times x ≡ b → cond b x None ≡ None → b ≡ false
      go (Some n) p true q f = let z : ◌≡◌ {A = ℕ} 0 1 = cc in absurd (omega arith)
      go (Some n) p false q f = refl
      go None p b q f = sym q
