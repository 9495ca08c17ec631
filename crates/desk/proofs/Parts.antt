-- An input that comes in parts: what they leave one after the other is what one input leaves.
-- Assumes nothing.
use mathlib.Core.Path.{◌≡◌, ap, ◌∙◌}
use mathlib.Core.Bool.{Bool, true}
use mathlib.Core.List.{List, [], ◌++◌}
use Prim.Native.Nat.{ℕ, ◌+◌, ◌*◌}
use native.Mathlib.Omega.{arith}
use lib.ListN.{length, length-append, length-replicate, replicate}
use Rattle.desk_state.specs.Desks.{fresh_desk}
use Rattle.desk_state.specs.declared.desk.Desk.{Desk}
use Rattle.desk_memory.specs.Memory.{texts_length, numbers_length, Sized, desk_of, used_of}
use Rattle.desk_memory.proofs.Desks.{sized-desk, zeros-fresh}
use Rattle.theorem_sequences.specs.Calls.{State, fresh_state, state_of}
use Rattle.desk_session.specs.Play.{played}
use Rattle.desk_session.specs.Lent.{held}
use Rattle.desk_session.proofs.Pairs.{played-in-parts}
use Rattle.desk.specs.Run.{PlaysPart, PlaysAll}

-- the state s is what whole pairs leave on a fresh desk with that log
pub record Reached (log : List ℕ) (s : State) : Type 0 where
  pub input : List ℕ
  pub pairs : ℕ
  pub whole : length input ≡ 2 * pairs
  pub plays : s ≡ played (fresh_state log) input

-- memory made zero
pub reached-none : (t n t' n' log : List ℕ) → Sized t n → t' ≡ replicate (length t) 0 → n' ≡ replicate (length n) 0 → Reached log (held t' n' log) × Sized t' n'
reached-none t n t' n' log z p q =
    let texts : List ℕ = replicate texts_length 0 in
    let numbers : List ℕ = replicate numbers_length 0 in
    let x = p ∙ ap (λ (k : ℕ). replicate k 0) z.texts in
    let y = q ∙ ap (λ (k : ℕ). replicate k 0) z.numbers in
    let plays =
    ap (λ (l : List ℕ). held l n' log) x ∙ ap (λ (l : List ℕ). held texts l log) y
    ∙ ap (λ (d : Desk). state_of d (used_of numbers) log) zeros-fresh.1 ∙ ap (λ (u : ℕ). state_of fresh_desk u log) zeros-fresh.2 in (
      record { input = []; pairs = 0; whole = omega arith; plays = plays },
      record {
        texts = ap (λ (l : List ℕ). length l) x ∙ length-replicate {A = ℕ} texts_length 0;
        numbers = ap (λ (l : List ℕ). length l) y ∙ length-replicate {A = ℕ} numbers_length 0;
      },
    )

pub reached-all : {log : List ℕ} {s : State} → Reached log s → PlaysAll log s.desk
reached-all h = record { input = h.input; plays = ap (λ (x : State). x.desk) h.plays }

module _ {first t n log t' n' log' : List ℕ} {more : Bool} (z : Sized t n) (h : Reached first (held t n log)) (p : PlaysPart t n log more t' n' log') where
  together : held t' n' log' ≡ played (fresh_state first) (h.input ++ p.part)
  together =
      p.plays.desk (sized-desk t n z) ∙ ap (λ (x : State). played x p.part) h.plays
      ∙ played-in-parts h.pairs (fresh_state first) h.input p.part h.whole

  -- one part more, that is full
  pub reached-next : more ≡ true → Reached first (held t' n' log')
  reached-next f = record {
    input = h.input ++ p.part;
    pairs = h.pairs + 2048;
    whole = simp length-append (omega (arith, h.whole, p.full f));
    plays = together;
  }

  -- the last part
  pub reached-end : PlaysAll first (desk_of t' n')
  reached-end = record { input = h.input ++ p.part; plays = ap (λ (x : State). x.desk) together }

  -- the memory keeps its lengths
  pub still-sized : Sized t' n'
  still-sized = record { texts = p.plays.same_length.0 ∙ z.texts; numbers = p.plays.same_length.1 ∙ z.numbers }
