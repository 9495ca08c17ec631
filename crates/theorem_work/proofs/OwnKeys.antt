-- What a bench has typed comes of its own calls and their answers alone.
-- Assumes nothing.
use mathlib.Core.Path.{◌≡◌, refl, sym, ap, ◌∙◌}
use mathlib.Core.Bool.{Bool, true, false}
use mathlib.Core.List.{List, [], ◌∷◌}
use Prim.Native.Nat.{ℕ, zero, suc}
use native.Mathlib.Omega.{arith}
use borrow.Author.Tests.{eqb-true, eqb-false, ltb-true}
use lib.Dec.{eqb, ltb}
use lib.ListN.{length, get_or, replicate, length-set}
use lib.Seq.{get_or-set_same, get_or-set_other, set-get_or}
use Rattle.desk_state.specs.Desks.{bench_count}
use Rattle.desk_state.specs.declared.sheet.Sheet.{Sheet}
use Rattle.theorem_work.specs.Calls.{Call, key, ask, report, who, Reply, keyed, answered, final}
use Rattle.theorem_work.specs.Gather.{own, cons_if}
use Rattle.theorem_work.specs.Work.{Entry, Work, no_work, typed_by, table_answer, text_after, key_answer, key_work, work_step}
use Rattle.theorem_work.specs.Entered.{text_after_calls}

-- at the start no bench has typed anything
pub none-typed : (n b : ℕ) → get_or (replicate {A = List ℕ} n []) b [] ≡ []
none-typed zero b = refl
none-typed (suc n) zero = refl
none-typed (suc n) (suc b) = none-typed n b

-- a bench that is not there is refused
no-bench : (len : ℕ) (es : List Entry) (t : List ℕ) (b j : ℕ) → ltb b bench_count ≡ false → table_answer len es t b j ≡ 1
unfolding table_answer
no-bench len es t b j e = rw e

-- a key changes its own bench's text by its answer, and no other's
own-text : (len : ℕ) (w : Work) (b j : ℕ) → length w.typed ≡ bench_count
    → typed_by (key_work (key_answer len w b j) b j w) b ≡ text_after (key_answer len w b j) j (typed_by w b)
own-text len w b j n = go (ltb b bench_count) refl
  where
    go : (t : Bool) → ltb b bench_count ≡ t → typed_by (key_work (key_answer len w b j) b j w) b ≡ text_after (key_answer len w b j) j (typed_by w b)
    go true t = get_or-set_same w.typed b (text_after (key_answer len w b j) j (typed_by w b)) [] (omega (arith, ltb-true b bench_count t))
    go false t =
        let a = no-bench len w.entries (typed_by w b) b j t in
        rw a (ap (λ (l : List (List ℕ)). get_or l b []) (set-get_or w.typed b []))

other_text : (a j x b : ℕ) (w : Work) → (a ≡ b → ⊥) → typed_by (key_work x a j w) b ≡ typed_by w b
other_text a j x b w n = get_or-set_other w.typed a b (text_after x j (typed_by w a)) [] (λ e. n (sym e))

module _ {Rows : Type 0} (rows_of : ℕ → Sheet → Rows) (no_rows : Rows) (len b : ℕ) where
  -- the calls of bench b with their answers, from the work w on
  abbrev own_from : Work → List Call → List (Call × Reply Rows)
  own_from w cs = own (λ p. p.0) b (answered (work_step rows_of no_rows len) w cs)

  own-keys-from : (cs : List Call) (w : Work) → length w.typed ≡ bench_count
      → typed_by (final (work_step rows_of no_rows len) w cs) b ≡ text_after_calls (typed_by w b) (own_from w cs)
  own-keys-from [] w n = refl
  own-keys-from (ask (report s p) ∷ cs) w n = own-keys-from cs w n
  own-keys-from (ask (who s i) ∷ cs) w n = own-keys-from cs w n
  own-keys-from (key a j ∷ cs) w n = go (eqb a b) refl (own-keys-from cs v (length-set w.typed a (text_after x j (typed_by w a)) ∙ n))
    where
      x : ℕ
      x = key_answer len w a j

      v : Work
      v = key_work x a j w

      go : (t : Bool) → eqb a b ≡ t → typed_by (final (work_step rows_of no_rows len) v cs) b ≡ text_after_calls (typed_by v b) (own_from v cs)
          → typed_by (final (work_step rows_of no_rows len) v cs) b ≡ text_after_calls (typed_by w b) (cons_if (λ p. p.0) (eqb a b) (key a j, keyed x) (own_from v cs))
      go false e ih = rw e (ih ∙ ap (λ (t : List ℕ). text_after_calls t (own_from v cs)) (other_text a j x b w (eqb-false a b e)))
      go true e ih = rw e (ih ∙ ap (λ (t : List ℕ). text_after_calls t (own_from v cs)) (rw (sym (eqb-true a b e)) (own-text len w a j n)))

  pub own_keys : (cs : List Call) → typed_by (final (work_step rows_of no_rows len) no_work cs) b ≡ text_after_calls [] (own_from no_work cs)
  own_keys cs = own-keys-from cs no_work refl ∙ ap (λ (t : List ℕ). text_after_calls t (own_from no_work cs)) (none-typed bench_count b)
