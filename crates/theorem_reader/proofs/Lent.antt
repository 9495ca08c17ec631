-- A part in lent memory: its table, its place, and what changes nothing.
-- Assumes nothing.
use mathlib.Core.Path.{◌≡◌, refl, sym, ap, subst⁻¹, ◌∙◌}
use mathlib.Core.Bool.{Bool, true, false}
use mathlib.Core.Logic.{◌↔◌}
use Prim.Native.Nat.{ℕ}
use native.Mathlib.Omega.{arith}
use borrow.Author.Tests.{eqb-true, eqb-false}
use lib.Dec.{eqb}
use Rattle.text.proofs.Bools.{fails}
use Rattle.desk_memory.specs.Memory.{Sized, is_desk}
use Rattle.desk_memory.proofs.Desks.{desk-sized, sized-desk, still-desk}
use Rattle.desk_memory.proofs.Whole.{same-texts, same_numbers}
use Rattle.reader_memory.specs.Memory.{stands_at}
use Rattle.reader_entries.proofs.Keeps.{desk-whole}
use Rattle.reader_left.specs.Left.{Left, left}
use Rattle.reader_feed.specs.Feed.{sound_reader}
use Rattle.theorem_refusals.specs.Table.{Answers}
use Rattle.theorem_refusals.proofs.Firsts.{this, answers}
use Rattle.theorem_reader.specs.Parts.{Between, left_for, LogPart, fed, ChangesNothing, SheetsThere, Ends}
use Rattle.theorem_reader.specs.Parts as parts
use Rattle.theorem_reader.specs.Runs.{Memory, between_in, FedIn, SoundIn, lent_feed_table, LentPlaced, Idle, unsound, over, IdleSame, EndsIn, with_refusal, with_last, Repeated}
use Rattle.theorem_reader.proofs.Sounds.{reader-so}
use Rattle.theorem_reader.proofs.Agree.{unsound-changes-nothing, over-changes-nothing, reads, reading-known, repeats, not-2}
use Rattle.theorem_reader.proofs.Answers.{feed-answers, feed-places}

-- every desk in lent memory has its sheets and items
lent-there : (m : Memory) → SheetsThere (between_in m).desk
lent-there m = let w = desk-whole m.texts m.numbers in record { sheets = w.sheets; items = w.items }

memory-path : (m m' : Memory) → m'.texts ≡ m.texts → m'.numbers ≡ m.numbers → m'.kept ≡ m.kept → m'.state ≡ m.state → m' ≡ m
memory-path m m' p q r s = λ i. record { texts = p i; numbers = q i; kept = r i; state = s i }

module _ (m : Memory) (c : LogPart) (a place : ℕ) (m' : Memory) (h : FedIn m c a place m') where
  abbrev b : Between
  b = between_in m

  module _ (d : is_desk m.texts m.numbers ≡ true) where
    fed-is : left a place (between_in m').desk (between_in m').used m'.kept m'.state ≡ fed b c
    fed-is = h.desk d

    -- memory that holds what it held is the same memory
    held_same : ChangesNothing b c → m' ≡ m
    held_same e =
        let all : between_in m' ≡ b = ap (λ (l : Left). left_for l) fed-is ∙ e in
        let z = desk-sized m.texts m.numbers d in
        let l = h.same_length in
        let z' : Sized m'.texts m'.numbers = record { texts = l.0 ∙ z.texts; numbers = l.1 ∙ z.numbers } in
        let x = ap (λ (y : Between). y.desk) all in
        let u = ap (λ (y : Between). y.used) all in
        memory-path m m' (same-texts m'.texts m'.numbers m.texts m.numbers z' z x u) (same_numbers m'.texts m'.numbers m.texts m.numbers z' z x u)
        (ap (λ (y : Between). y.kept) all) (ap (λ (y : Between). y.state) all)

  no-desk-same : is_desk m.texts m.numbers ≡ false → m' ≡ m
  no-desk-same d = let n = h.no_desk d in memory-path m m' n.2 n.3 n.4 n.5

  -- "with 2 the whole part changes nothing", "parts after it, or after the last part, change nothing"
  idle-nothing : is_desk m.texts m.numbers ≡ true → Idle m a → ChangesNothing b c
  idle-nothing d i = go (sound_reader b.desk b.used b.kept b.state) (eqb (stands_at b.state) 0) refl refl i
    where
      go : (x y : Bool) → sound_reader b.desk b.used b.kept b.state ≡ x → eqb (stands_at b.state) 0 ≡ y → Idle m a → ChangesNothing b c
      go false y p q i = (unsound-changes-nothing b c p).2
      go true false p q i = over-changes-nothing b c p (eqb-false (stands_at b.state) 0 q)
      go true true p q (over ne) = absurd (ne (eqb-true (stands_at b.state) 0 q))
      go true true p q (unsound two) =
          let r = ap (λ (l : Left). l.answer) (fed-is d ∙ reads b c p (eqb-true (stands_at b.state) 0 q)) in
          absurd (not-2 _ (reading-known b c).known (sym r ∙ two))

  is-idle : Idle m a → m' ≡ m
  is-idle i = go (is_desk m.texts m.numbers) refl
    where
      go : (x : Bool) → is_desk m.texts m.numbers ≡ x → m' ≡ m
      go true d = held_same d (idle-nothing d i)
      go false d = no-desk-same d

  module _ (going : stands_at m.state ≡ 0) where
    -- the table of a part, of lent memory that is a desk or is none
    pub lent-feed-table : Answers (lent_feed_table m c) a
    lent-feed-table = go (is_desk m.texts m.numbers) refl
      where
        so : is_desk m.texts m.numbers ≡ true → (sound_reader b.desk b.used b.kept b.state ≡ true) ↔ SoundIn m
        so d =
            let r = reader-so b.desk b.used b.kept b.state in
            (λ e. (desk-sized m.texts m.numbers d, r.0 e), λ s. r.1 s.1)

        go : (x : Bool) → is_desk m.texts m.numbers ≡ x → Answers (lent_feed_table m c) a
        go true d = subst⁻¹ (Answers (lent_feed_table m c)) (ap (λ (l : Left). l.answer) (fed-is d)) (feed-answers b c going (SoundIn m) (so d))
        go false d = answers (lent_feed_table m c) a refl (this (λ s. fails d (sized-desk m.texts m.numbers s.0)) (h.no_desk d).0)

    pub lent-feed-places : LentPlaced m c a place
    lent-feed-places = go (is_desk m.texts m.numbers) refl
      where
        go : (x : Bool) → is_desk m.texts m.numbers ≡ x → LentPlaced m c a place
        go true d = subst⁻¹ (λ (l : Left). LentPlaced m c l.answer l.place) (fed-is d) (feed-places b c going)
        go false d =
            let n = h.no_desk d in
            record {
              of_18 = λ z. absurd (omega (arith, z, n.0));
              of_19 = λ z. absurd (omega (arith, z, n.0));
              of_20 = λ z. absurd (omega (arith, z, n.0));
              of_others = λ x y z. n.1;
            }

-- no byte of texts, numbers and the reader's memory changes
pub idle-same : (m : Memory) (c : LogPart) (a place : ℕ) (m' : Memory) → IdleSame m c a place m'
idle-same m c a place m' h i = is-idle m c a place m' h i

-- "parts after it, or after the last part, change nothing and repeat its answer"
pub lent-repeats : {m m' m'' : Memory} {c e : LogPart} {a place a' place' : ℕ} → FedIn m c a place m' → EndsIn c a → FedIn m' e a' place' m'' → Repeated a place m' a' place' m''
lent-repeats {m} {m'} {m''} {c} {e} {a} {place} {a'} {place'} h ends k = go (is_desk m.texts m.numbers) refl
  where
    still : is_desk m'.texts m'.numbers ≡ is_desk m.texts m.numbers
    still = still-desk m.texts m.numbers m'.texts m'.numbers h.same_length.0 h.same_length.1

    go : (x : Bool) → is_desk m.texts m.numbers ≡ x → Repeated a place m' a' place' m''
    go true d =
        let first = fed-is m c a place m' h d in
        let ended : Ends (between_in m) c = ends_so ends (ap (λ (l : Left). l.answer) first) in
        let again : fed (between_in m') e ≡ fed (between_in m) c
        = ap (λ (l : Left). fed (left_for l) e) first ∙ repeats (between_in m) c (lent-there m) ended e in
        let d' = still ∙ d in
        let second = fed-is m' e a' place' m'' k d' ∙ again ∙ sym first in
        record {
          answer = ap (λ (l : Left). l.answer) second;
          place_too = ap (λ (l : Left). l.place) second;
          memory = held_same m' e a' place' m'' k d' (ap (λ (l : Left). left_for l) (again ∙ sym first));
        }
      where
        ends_so : EndsIn c a → a ≡ (fed (between_in m) c).answer → Ends (between_in m) c
        ends_so (with_refusal ne) q = parts.with_refusal (λ z. ne (q ∙ z))
        ends_so (with_last p) q = parts.with_last p
    go false d =
        let x = h.no_desk d in
        let y = k.no_desk (still ∙ d) in
        record { answer = y.0 ∙ sym x.0; place_too = y.1 ∙ sym x.1; memory = no-desk-same m' e a' place' m'' k (still ∙ d) }
