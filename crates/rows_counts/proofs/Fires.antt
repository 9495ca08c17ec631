-- What rows 13 to 24 say in the request's words: shown once over the table, by the rule and not by the row.
-- Assumes nothing.
use Rattle.std.specs.Prelude.{Option, Some, None}
use mathlib.Core.Path.{◌≡◌, refl, sym, ap, ◌∙◌}
use mathlib.Core.Bool.{Bool, true, false, cond, false≢true}
use mathlib.Core.List.{List}
use mathlib.Core.Logic.{◌⊎◌, inl, inr, ◌↔◌}
use Prim.Native.Nat.{ℕ, ◌+◌, ◌-◌, ◌≤◌, ◌<◌}
use native.Mathlib.Omega.{arith}
use Rattle.std.proofs.lemmas.Int.{ints}
use lib.IntN.{ℤ, pos}
use lib.Signed.{◌<ℤ◌, <ℤ_irrefl}
use Rattle.text.specs.Quote.{bytes}
use Rattle.text.specs.Run.{run_of, has_at, kind_at, between}
use Rattle.text.proofs.Bools.{and_is, or_is}
use Rattle.text.proofs.Tables.{agree}
use Rattle.number_decimal.specs.Reading.{reading_of, unsigned_of, size_of, is_tail}
use Rattle.number_decimal.specs.Digits.{value_from}
use Rattle.rows.specs.Rows.{row_of, no_alert, missing}
use Rattle.rows_counts.specs.declared.Rule.{Rule}
use Rattle.rows_counts.specs.declared.Rule.TheVariants.{Present, PresentIfDiffer, ZeroIfAgree, NotAbove, Rising}
use Rattle.std.specs.Option.{is_some}
use Rattle.std.specs.declared.cmp.Ordering.{Ordering}
use Rattle.std.specs.declared.cmp.Ordering.TheVariants.{Less, Equal, Greater}
use Rattle.std.specs.Ordering.{MatchOrdering, int_cmp, is_eq, is_ne, is_gt, is_some_and}
use Rattle.std.proofs.lemmas.Cmp.{int_ranked}
use Rattle.rows_counts.specs.Counts.{rules, rule_of, keeps, order_of, compared_row, rule_row, count_row}
use Rattle.rows_counts.specs.Wording.{Holds, There, Both, compared, AllThere, Broken, reason_of, Judges}
use Rattle.rows_counts.proofs.Orders.{first-missing, second-missing, both-known}

-- the three tests of how two numbers stand, and what they tell
apart : {x y : ℤ} → x <ℤ y → x ≡ y → ⊥
apart l q = <ℤ_irrefl (rw q at l)

not-both : {x y : ℤ} → x <ℤ y → y <ℤ x → ⊥
not-both h k = omega (arith, ints)

module _ (x y : ℤ) where
  above-by : (o : Ordering) → MatchOrdering o (x <ℤ y) (x ≡ y) (y <ℤ x) → (is_gt o ≡ true) ↔ (y <ℤ x)
  above-by Less l = (λ e. absurd (false≢true e), λ h. absurd (not-both l h))
  above-by Equal q = (λ e. absurd (false≢true e), λ h. absurd (apart h (sym q)))
  above-by Greater g = (λ e. g, λ h. refl)

  same-by : (o : Ordering) → MatchOrdering o (x <ℤ y) (x ≡ y) (y <ℤ x) → (is_eq o ≡ true) ↔ (x ≡ y)
  same-by Less l = (λ e. absurd (false≢true e), λ q. absurd (apart l q))
  same-by Equal q = (λ e. q, λ h. refl)
  same-by Greater g = (λ e. absurd (false≢true e), λ q. absurd (apart g (sym q)))

  apart-by : (o : Ordering) → MatchOrdering o (x <ℤ y) (x ≡ y) (y <ℤ x) → (is_ne o ≡ true) ↔ (x ≡ y → ⊥)
  apart-by Less l = (λ e q. apart l q, λ n. refl)
  apart-by Equal q = (λ e. absurd (false≢true e), λ n. absurd (n q))
  apart-by Greater g = (λ e q. apart g (sym q), λ n. refl)

-- the two texts of an order, by what was read of them
pub known_is : (v w : List ℕ) → (is_some (order_of v w) ≡ true) ↔ (There v × There w)
known_is v w = (go (reading_of v) (reading_of w) refl refl, λ h. ap is_some (both-known v w h.0.worth h.1.worth h.0.read h.1.read))
  where
    go : (r s : Option ℤ) → reading_of v ≡ r → reading_of w ≡ s → is_some (order_of v w) ≡ true → There v × There w
    go (Some x) (Some y) e f k = (record { worth = x; read = e; so = tt }, record { worth = y; read = f; so = tt })
    go (Some x) None e f k = absurd (false≢true (sym (ap is_some (second-missing v w x e f)) ∙ k))
    go None s e f k = absurd (false≢true (sym (ap is_some (first-missing v w e)) ∙ k))

-- of two numbers that are there, what holds of the two that were read
module _ (v w : List ℕ) (a : There v) (b : There w) where
  both : (R : ℤ → ℤ → Type 0) → R a.worth b.worth → Both R v w
  both R h = record { worth = a.worth; read = a.read; so = record { worth = b.worth; read = b.read; so = h } }

  of-both : (R : ℤ → ℤ → Type 0) → Both R v w → R a.worth b.worth
  of-both R h =
      let e : h.worth ≡ a.worth = cc (h.read, a.read) in
      let f : h.so.worth ≡ b.worth = cc (h.so.read, b.read) in
      subst2 R e f h.so.so
    where
      subst2 : (R : ℤ → ℤ → Type 0) {x x' y y' : ℤ} → x ≡ x' → y ≡ y' → R x y → R x' y'
      subst2 R p q h = rw (p, q) at h

  joined : (f : Ordering → Bool) (R : ℤ → ℤ → Type 0) → (f (int_cmp a.worth b.worth) ≡ true) ↔ R a.worth b.worth → (is_some_and f (order_of v w) ≡ true) ↔ Both R v w
  joined f R h =
      let e = ap (is_some_and f) (both-known v w a.worth b.worth a.read b.read) in
      (λ t. both R (h.0 (sym e ∙ t)), λ r. e ∙ h.1 (of-both R r))

  abbrev stands : MatchOrdering (int_cmp a.worth b.worth) (a.worth <ℤ b.worth) (a.worth ≡ b.worth) (b.worth <ℤ a.worth)
  stands = int_ranked a.worth b.worth (int_cmp a.worth b.worth) refl

  pub above-both : (is_some_and is_gt (order_of v w) ≡ true) ↔ Both (λ x y. y <ℤ x) v w
  above-both = joined is_gt (λ x y. y <ℤ x) (above-by a.worth b.worth _ stands)

  pub apart-both : (is_some_and is_ne (order_of v w) ≡ true) ↔ Both (λ x y. x ≡ y → ⊥) v w
  apart-both = joined is_ne (λ x y. x ≡ y → ⊥) (apart-by a.worth b.worth _ stands)

  pub same-both : (is_some_and is_eq (order_of v w) ≡ true) ↔ Both (λ x y. x ≡ y) v w
  same-both = joined is_eq (λ x y. x ≡ y) (same-by a.worth b.worth _ stands)

-- a rule whose row is by two tests: whether all is there, and whether the rule is broken
compared-judges : {whole breaks : Type 0} (known broken : Bool) → (known ≡ true) ↔ whole → (whole → (broken ≡ true) ↔ breaks) → Judges whole breaks 0 (compared_row known broken)
compared-judges false broken k b =
    record {
      fires = (λ e. absurd (omega arith), λ h. absurd (false≢true (k.1 h.0)));
      fired = λ e. absurd (omega arith);
      gap = λ n. refl;
      quiet = λ h n. absurd (false≢true (k.1 h));
    }
compared-judges true true k b =
    record {
      fires = (λ e. (k.0 refl, (b (k.0 refl)).0 refl), λ h. refl);
      fired = λ e. refl;
      gap = λ n. absurd (n (k.0 refl));
      quiet = λ h n. absurd (n ((b h).0 refl));
    }
compared-judges true false k b =
    record {
      fires = (λ e. absurd (omega arith), λ h. absurd (false≢true ((b h.0).1 h.1)));
      fired = λ e. absurd (omega arith);
      gap = λ n. absurd (n (k.0 refl));
      quiet = λ h n. refl;
    }

present-judges : (v : List ℕ) (t : Bool) → missing v ≡ t → Judges (Unit {0}) (missing v ≡ true) 1 (cond t (row_of 2 1) no_alert)
present-judges v true e = record { fires = (λ q. (tt, e), λ h. refl); fired = λ q. refl; gap = λ n. absurd (n tt); quiet = λ h n. absurd (n e) }
present-judges v false e =
    record {
      fires = (λ q. absurd (omega arith), λ h. absurd (false≢true (sym e ∙ h.1)));
      fired = λ q. absurd (omega arith);
      gap = λ n. absurd (n tt);
      quiet = λ h n. refl;
    }

-- the reason that a rule fires with
abbrev rule_reason : Option Rule → ℕ
rule_reason (Some (Present i)) = 1
rule_reason (Some (PresentIfDiffer i a b)) = 0
rule_reason (Some (ZeroIfAgree i a b)) = 0
rule_reason (Some (NotAbove a b)) = 0
rule_reason (Some (Rising a b c)) = 0
rule_reason None = 0

-- zero is the number that `0` writes
zero-read : reading_of (bytes "0") ≡ Some (pos 0)
unfolding reading_of unsigned_of size_of run_of has_at kind_at between is_tail value_from
zero-read = refl

abbrev zero-there : There (bytes "0")
zero-there = record { worth = pos 0; read = zero-read; so = tt }

-- every rule judges its row
module _ (at : ℕ → List ℕ) where
  pair-there : (v w : List ℕ) → (is_some (order_of v w) ≡ true) ↔ (There v × (There w × Unit {0}))
  pair-there v w = (λ e. let h = (known_is v w).0 e in (h.0, (h.1, tt)), λ h. (known_is v w).1 (h.0, h.1.0))

  pub rule-judges : (rule : Option Rule) → Judges (AllThere at (compared rule)) (Broken at rule) (rule_reason rule) (rule_row at rule)
  rule-judges (Some (Present i)) = present-judges (at i) (missing (at i)) refl
  rule-judges (Some (PresentIfDiffer i a b)) =
      compared-judges _ _ (pair-there (at a) (at b)) (λ h. and_is (apart-both (at a) (at b) h.0 h.1.0) ((λ e. e), (λ e. e)))
  rule-judges (Some (ZeroIfAgree i a b)) =
      compared-judges _ _ (
        (λ e. let h = (and_is (known_is (at i) (bytes "0")) (known_is (at a) (at b))).0 e in (h.0.0, (h.1.0, (h.1.1, tt)))),
        λ h. (and_is (known_is (at i) (bytes "0")) (known_is (at a) (at b))).1 ((h.0, zero-there), (h.1.0, h.1.1.0)),
      )
      (λ h. and_is (same-both (at a) (at b) h.1.0 h.1.1.0) (not-zero h.0))
    where
      not-zero : There (at i) → (is_some_and is_ne (order_of (at i) (bytes "0")) ≡ true) ↔ Holds (λ z. z ≡ pos 0 → ⊥) (at i)
      not-zero h =
          let p = apart-both (at i) (bytes "0") h zero-there in (
            (λ e. let q = p.0 e in record { worth = q.worth; read = q.read; so = λ z. q.so.so (z ∙ zero q.so) }),
            λ q. p.1 (record { worth = q.worth; read = q.read; so = record { worth = pos 0; read = zero-read; so = q.so } }),
          )
        where
          zero : {P : ℤ → Type 0} (n : Holds P (bytes "0")) → pos 0 ≡ n.worth
          zero n = cc (n.read, zero-read)
  rule-judges (Some (NotAbove a b)) = compared-judges _ _ (pair-there (at a) (at b)) (λ h. above-both (at a) (at b) h.0 h.1.0)
  rule-judges (Some (Rising a b c)) =
      compared-judges _ _ (
        (λ e. let h = (and_is (known_is (at a) (at b)) (known_is (at b) (at c))).0 e in (h.0.0, (h.0.1, (h.1.1, tt)))),
        λ h. (and_is (known_is (at a) (at b)) (known_is (at b) (at c))).1 ((h.0, h.1.0), (h.1.0, h.1.1.0)),
      )
      (λ h. or_is (above-both (at a) (at b) h.0 h.1.0) (above-both (at b) (at c) h.1.0 h.1.1.0))
  rule-judges None =
      record { fires = (λ q. absurd (omega arith), λ h. absurd h.1); fired = λ q. absurd (omega arith); gap = λ n. absurd (n tt); quiet = λ h n. refl }

-- "reason 1 in 13 to 19, else 0": one test that antt computes
reasons : (k : ℕ) → k < 12 → rule_reason (rule_of (13 + k)) ≡ reason_of (13 + k)
unfolding rules rule_of
reasons = agree (λ (k : ℕ). rule_reason (rule_of (13 + k))) (λ (k : ℕ). reason_of (13 + k)) 0 12 refl

-- "Shown once over rows 13 to 24: a row the profile keeps fires exactly when its rule, with no compared item missing, is broken."
pub count-rows : (profile : ℕ) (at : ℕ → List ℕ) (row : ℕ) → 13 ≤ row → row ≤ 24 → keeps profile row ≡ true
    → Judges (AllThere at (compared (rule_of row))) (Broken at (rule_of row)) (reason_of row) (count_row profile at row)
unfolding count_row
count-rows profile at row first last kept =
    let k : 13 + (row - 13) ≡ row = omega arith in
    let reason : rule_reason (rule_of row) ≡ reason_of row = rw k at (reasons (row - 13) (omega arith)) in
    rw kept (rw reason at (rule-judges at (rule_of row)))

-- "For powder rows 13 to 18, 20 and 21 are level 0, reason 0."
pub row-left-out : (profile : ℕ) (at : ℕ → List ℕ) (row : ℕ) → keeps profile row ≡ false → count_row profile at row ≡ no_alert
unfolding count_row
row-left-out profile at row left = simp left

-- "Powder gives no alert that the other profile lacks": a row of a profile is as of any profile that keeps it, or has no alert
pub kept-or-none : (profile other : ℕ) (at : ℕ → List ℕ) (row : ℕ) → keeps other row ≡ true → (count_row profile at row ≡ no_alert) ⊎ (count_row profile at row ≡ count_row other at row)
unfolding count_row
kept-or-none profile other at row kept = go (keeps profile row)
  where
    go : (t : Bool) → (cond t (rule_row at (rule_of row)) no_alert ≡ no_alert) ⊎ (cond t (rule_row at (rule_of row)) no_alert ≡ cond (keeps other row) (rule_row at (rule_of row)) no_alert)
    go true = inr (sym (simp kept))
    go false = inl refl
