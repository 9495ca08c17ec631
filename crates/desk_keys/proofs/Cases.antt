-- What the steps of a key leave in lent memory, by cases.
-- Assumes nothing.
use mathlib.Core.Path.{◌≡◌, ap, ◌∙◌}
use mathlib.Core.List.{List}
use Prim.Native.Nat.{ℕ, ◌+◌, ◌*◌, ◌-◌, ◌≤◌, ◌<◌}
use native.Mathlib.Omega.{arith}
use borrow.Author.Tests.{lt-ltb, le-ltb, le-leb, lt-leb}
use lib.ListN.{get_or, set}
use lib.Seq.{get_or-set_other}
use Rattle.line_items.specs.Typed.{line_most}
use Rattle.desk_state.specs.Lines.{empty_line, erased}
use Rattle.desk_state.specs.Desks.{bench_count, line_at, with_line}
use Rattle.desk_state.specs.declared.line.Line.{Line}
use Rattle.desk_keys.specs.Key.{edited, append_key}
use Rattle.desk_memory.specs.Memory.{used_at, Sized, desk_of, used_of}
use Rattle.desk_memory.proofs.Desks.{line-at}
use Rattle.desk_keys.specs.Lent.{leaves}
use Rattle.desk_keys.proofs.Stores.{appended-in, erased-in, same_line}

module _ (t n : List ℕ) (s : Sized t n) (k : ℕ) (h : k < bench_count) (log : List ℕ) where
  len-at : (line_at (desk_of t n) k).len ≡ get_or n k 0
  len-at = ap (λ (l : Line). l.len) (line-at t n k h)

  used-at : (m : ℕ) → used_of (set n k m) ≡ used_of n
  used-at m = get_or-set_other n k used_at m 0 (λ q. omega arith)

  pub append-full : (b : ℕ) → line_most ≤ get_or n k 0 → leaves 4 t n log ≡ append_key (desk_of t n) (used_of n) log k b
  append-full b w = simp (le-ltb (line_at (desk_of t n) k).len line_most (omega (arith, len-at)))

  pub append-some : (b : ℕ) → get_or n k 0 < line_most
      → leaves 0 (set t (k * line_most + get_or n k 0) b) (set n k (get_or n k 0 + 1)) log ≡ append_key (desk_of t n) (used_of n) log k b
  append-some b w =
      let d = appended-in t n s k h b w in
      let u = used-at (get_or n k 0 + 1) in
      simp (lt-ltb (line_at (desk_of t n) k).len line_most (omega (arith, len-at))) (cc)

  kept : erased (line_at (desk_of t n) k) ≡ line_at (desk_of t n) k → leaves 0 t n log ≡ edited (desk_of t n) (used_of n) log k (erased (line_at (desk_of t n) k))
  kept e = let d = ap (with_line (desk_of t n) k) e ∙ same_line t n s k h in cc

  pub erase-none : get_or n k 0 < 1 → leaves 0 t n log ≡ edited (desk_of t n) (used_of n) log k (erased (line_at (desk_of t n) k))
  unfolding erased
  erase-none w = kept (simp (lt-leb 1 (line_at (desk_of t n) k).len (omega (arith, len-at))))

  pub erase-long : 1 ≤ get_or n k 0 → line_most < get_or n k 0 → leaves 0 t n log ≡ edited (desk_of t n) (used_of n) log k (erased (line_at (desk_of t n) k))
  unfolding erased
  erase-long o w =
      kept (simp (le-leb 1 (line_at (desk_of t n) k).len (omega (arith, len-at)), lt-leb (line_at (desk_of t n) k).len line_most (omega (arith, len-at))))

  pub erase-some : 1 ≤ get_or n k 0 → get_or n k 0 ≤ line_most
      → leaves 0 (set t (k * line_most + (get_or n k 0 - 1)) 0) (set n k (get_or n k 0 - 1)) log
      ≡ edited (desk_of t n) (used_of n) log k (erased (line_at (desk_of t n) k))
  erase-some o w =
      let d = erased-in t n s k h o w in
      let u = used-at (get_or n k 0 - 1) in
      cc

-- memory with that used number
pub leaves-desk : (a : ℕ) (t n log : List ℕ) {u : ℕ} → used_of n ≡ u → leaves a t n log ≡ record { answer = a; desk = desk_of t n; used = u; log = log }
leaves-desk a t n log e = cc

-- a line emptied
pub line-cleared : (t n t' n' log : List ℕ) (k : ℕ) → desk_of t' n' ≡ with_line (desk_of t n) k empty_line → used_of n' ≡ used_of n
    → leaves 0 t' n' log ≡ edited (desk_of t n) (used_of n) log k empty_line
line-cleared t n t' n' log k d u = cc
