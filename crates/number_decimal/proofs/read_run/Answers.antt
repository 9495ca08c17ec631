use native.Mathlib.Omega.{arith}
use native.Mathlib.Numerals.{add-one}
use mathlib.Core.Path.{◌≡◌, refl, sym, ap, subst, ◌∙◌}
use mathlib.Core.Bool.{true}
use mathlib.Core.List.{List}
use Prim.Native.Nat.{ℕ, suc, ◌+◌, ◌-◌, ◌*◌, ◌^◌, ◌≤◌, ◌<◌}
use lib.ListN.{length, get_or, take}
use Rattle.text.specs.Run.{run_of, is_digit}
use Rattle.text.proofs.Runs.{Passed, Stops, start, more, stop, end, between_is}
use Rattle.number_decimal.specs.Digits.{most_bytes, value_from}
use Rattle.number_decimal.proofs.Values.{Room, value-next, one-fits, room_after}
use Rattle.number_decimal.proofs.read_run.Goals as goal

-- where digits are left there is room for one more and the rest
room_for : (v i : ℕ) (s : List ℕ) → i < length s → Room v s i → (v + 1) * 10 ^ suc (length s - suc i) ≤ 10 ^ most_bytes
room_for v i s l h = let e : length s - i ≡ suc (length s - suc i) = omega arith in subst (λ (n : ℕ). (v + 1) * 10 ^ n ≤ 10 ^ most_bytes) e h

-- what a return of i owes
stopped : (acc v i : ℕ) (s : List ℕ) → v ≡ value_from acc (take i s) → Stops is_digit s i → (i ≡ run_of is_digit s) × (v ≡ value_from acc (take (run_of is_digit s) s))
stopped acc v i s e h = (h.0, e ∙ ap (λ (n : ℕ). value_from acc (take n s)) h.0)

-- what the end of the text owes
finished : (acc v i : ℕ) (s : List ℕ) → v ≡ value_from acc (take i s) → Passed is_digit s i → length s ≤ i
    → (length s ≡ run_of is_digit s) × (v ≡ value_from acc (take (run_of is_digit s) s))
finished acc v i s e h l = let k = stopped acc v i s e (end _ _ h l) in (omega (arith, k.0, h.within), k.1)

-- one digit more
further : (acc v i d : ℕ) (s : List ℕ) → i < length s → is_digit (get_or s i 0) ≡ true → d ≡ get_or s i 0 - 48
    → Passed is_digit s i × (v ≡ value_from acc (take i s)) × Room v s i
    → Passed is_digit s (i + 1) × (v * 10 + d ≡ value_from acc (take (i + 1) s)) × Room (v * 10 + d) s (i + 1)
further acc v i d s l b e h =
    let k = between_is 48 57 (get_or s i 0) b in (
      more _ _ h.0 l b,
      rw (add-one i, e) (sym (value-next acc s i l ∙ rw (sym h.1) refl)),
      rw (add-one i) (room_after _ _ _ (room_for v i s l h.2) d (omega (arith, k))),
    )

pub loop-i-init : goal.loop-i-init
unfolding value_from
loop-i-init c =
    let s = c.args.s.now in
    let all : length s ≡ length s - 0 = omega arith in
    (start _ _, refl, subst (λ (n : ℕ). (c.args.acc + 1) * 10 ^ n ≤ 10 ^ most_bytes) all c.requires)

pub returns-then-not-is_between : goal.returns-then-not-is_between
returns-then-not-is_between c =
    stopped _ _ _ _ c.loop-i.invariant.1
    (stop _ _ c.loop-i.invariant.0 c.loop-i-test.true (sym c.is_between.ensures ∙ c.if-not-is_between.true))

pub overflow_mul-value : goal.overflow_mul-value
overflow_mul-value c = omega (arith, one-fits _ _ _ (room_for _ _ _ c.loop-i-test.true c.loop-i.invariant.2))

pub overflow_sub-b : goal.overflow_sub-b
overflow_sub-b c = (between_is 48 57 _ (sym c.is_between.ensures ∙ c.if-not-is_between.false)).0

pub overflow_add-value : goal.overflow_add-value
overflow_add-value c =
    omega
    (arith, one-fits _ _ _ (room_for _ _ _ c.loop-i-test.true c.loop-i.invariant.2), between_is 48 57 _ (sym c.is_between.ensures ∙ c.if-not-is_between.false), c.from.ensures)

pub loop-i-preserved : goal.loop-i-preserved
loop-i-preserved c =
    further _ _ _ _ _ c.loop-i-test.true (sym c.is_between.ensures ∙ c.if-not-is_between.false) c.from.ensures c.loop-i.invariant

pub returns : goal.returns
returns c = finished _ _ _ _ c.loop-i.invariant.1 c.loop-i.invariant.0 c.loop-i-test.false
