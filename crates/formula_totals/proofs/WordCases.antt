-- The cases of a term and of the end of a bracket, one for each return of the code.
-- Assumes nothing.
use Rattle.std.specs.Prelude.{Option, Some, None}
use Prim.Native.Nat.{ℕ, zero, suc, ◌+◌, ◌*◌, ◌≤◌}
use mathlib.Core.Path.{◌≡◌, refl, sym, ap, ◌∙◌}
use mathlib.Core.Bool.{true, false, false≢true}
use mathlib.Core.List.{List}
use native.Mathlib.Omega.{arith}
use lib.ListN.{length, get_or, take, drop, length-drop}
use lib.Seq.{drop-drop}
use Rattle.text.specs.Run.{run_of, kind_at, has_at}
use Rattle.text.proofs.Runs.{has_within, run_short}
use Rattle.formula_terms.specs.Term.{count_of, term_of}
use Rattle.formula_sum.specs.Recognised.{is_recognised}
use Rattle.formula_totals.specs.Counters.{Added, TermLeft}
use Rattle.formula_moiety.specs.Reading.{is_times, in_word, word_part, closed}
use Rattle.formula_moiety.specs.Totals.{count_number, total_part, total}
use Rattle.formula_totals.specs.Left.{GotLeft, CloseLeft}

-- a term
module _ (s before after : List ℕ) (n : ℕ) (e : n ≡ run_of in_word s) where
  pub word-fails : TermLeft (term_of (take n s)) before after None → GotLeft total_part s before after None (word_part s)
  unfolding word_part
  word-fails h = rw (← e, h)

  pub word-takes : n ≤ length s → TermLeft (term_of (take n s)) before after (Some tt) → GotLeft total_part s before after (Some n) (word_part s)
  unfolding word_part total_part term_of kind_at
  word-takes l h =
      rw (← e, h.0) (record { n = n; is = refl; some = some n h.0; within = l; follows = refl; adds = h.1 })
    where
      some : (n : ℕ) → is_recognised (term_of (take n s)) ≡ true → 1 ≤ n
      some zero q = absurd (false≢true q)
      some (suc n) q = omega arith

-- the end of a bracket
module _ (s inner before after : List ℕ) where
  pub close-none : has_at s 0 41 ≡ false → CloseLeft s inner before after None
  unfolding CloseLeft closed
  close-none h m t = rw h

  module _ (h : has_at s 0 41 ≡ true) (n : ℕ) (e : n ≡ run_of in_word (drop 1 s)) where
    pub close-no-count : is_times (take n (drop 1 s)) ≡ false → CloseLeft s inner before after None
    unfolding CloseLeft closed
    close-no-count c m t = rw (h, ← e, c)

    pub close-takes : (c : ℕ) → is_times (take n (drop 1 s)) ≡ true → count_of (take n (drop 1 s)) ≡ Some c → Added before after (λ (k : ℕ). c * get_or inner k 0)
        → CloseLeft s inner before after (Some (1 + n))
    unfolding CloseLeft closed total_part
    close-takes c q w a m t =
        let l = has_within s 0 41 h in
        let u = run_short in_word (drop 1 s) in
        rw (h, ← e, q)
        (record {
          n = 1 + n;
          is = refl;
          some = omega arith;
          within = omega (arith, length-drop 1 s);
          follows = drop-drop n 1 s;
          adds = λ k. a k ∙ ap (λ (x : ℕ). get_or before k 0 + c * x) (t k) ∙ ap (λ (x : Option ℕ). get_or before k 0 + count_number x * total m k) (sym w);
        })
