-- `desk_entries::is_open` meets its contract: the item of the bench's own sheet is empty, or its bench is compared.
-- Assumes nothing.
use native.Mathlib.Omega.{arith}
use mathlib.Core.Path.{◌≡◌, sym, ap, ◌∙◌}
use mathlib.Core.List.{List}
use Prim.Native.Nat.{ℕ}
use borrow.Author.Tests.{eq-eqb, ne_eqb}
use lib.ListN.{get_or}
use Rattle.desk_state.specs.Desks.{sheet_of_bench}
use Rattle.desk_memory.specs.Memory.{item_numbers, slot}
use Rattle.desk_entries.specs.Entry.{open_to}
use Rattle.desk_entries.proofs.is_open.Goals as goal

pub returns-then-number_at-lt1 : goal.returns-then-number_at-lt1
unfolding open_to sheet_of_bench
returns-then-number_at-lt1 c =
    let k = c.args.k in
    let empty : c.number_at.result ≡ 0 = omega (arith, c.if-number_at-lt1.true) in
    λ v. simp (eq-eqb _ 0 (ap (λ (x : List ℕ). get_or (slot item_numbers x k) 0 0) (sym c.sheet_numbers-own.ensures) ∙ sym c.number_at.ensures ∙ empty))

pub returns : goal.returns
unfolding open_to sheet_of_bench
returns c =
    let k = c.args.k in
    let filled : c.number_at.result ≡ 0 → ⊥ = λ z. omega (arith, c.if-number_at-lt1.false) in
    let own : (i : ℕ) → get_or (slot item_numbers _ k) i 0 ≡ _ = λ i. ap (λ (x : List ℕ). get_or (slot item_numbers x k) i 0) c.sheet_numbers-own.ensures in
    λ v. simp (ne_eqb _ 0 (λ z. filled (c.number_at.ensures ∙ own 0 ∙ z)), c.number_at-2.ensures ∙ own 2)
