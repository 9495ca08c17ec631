-- What is known of a line that was split.
-- Assumes nothing.
use Rattle.std.specs.Prelude.{None, Some}
use mathlib.Core.Path.{◌≡◌, sym, ap}
use mathlib.Core.Bool.{true, ◌&&◌}
use mathlib.Core.List.{List}
use Prim.Native.Nat.{ℕ, ◌≤◌}
use native.Mathlib.Omega.{arith}
use borrow.Author.Tests.{leb-true}
use lib.Dec.{leb}
use lib.ListN.{length, take, drop, length-drop}
use lib.Seq.{length-take-le}
use Rattle.text.specs.Run.{run_of, between, other, has_at}
use Rattle.text.proofs.Bools.{and_both, cond-first}
use Rattle.text.proofs.Runs.{run_short}
use Rattle.line_values.specs.Value.{is_value}
use Rattle.line_reader.specs.Line.{name_end, value_start, parts_at, split_of}
use Rattle.line_reader.specs.declared.line.Parts.{Parts}

-- the line t is a name that ends at n, spaces, and a value that begins at v
pub record IsSplit (t : List ℕ) (n v : ℕ) : Type 0 where
  pub name-end : n ≡ name_end t
  pub value-start : v ≡ value_start t
  pub first : has_at t 0 95 ≡ true
  pub spaces : 1 ≤ run_of (between 32 32) (drop (name_end t) t)
  pub value : is_value (drop (value_start t) t) ≡ true

no-parts : (n v : ℕ) → None ≡ parts_at n v → ⊥
no-parts n v e = let z : ◌≡◌ {A = ℕ} 0 1 = cc in omega arith

some-same : (x y : Parts) → Some x ≡ Some y → x ≡ y
some-same x y e = cc

-- the same parts have the same places
pub parts-same : (n v m w : ℕ) → parts_at n v ≡ parts_at m w → (n ≡ m) × (v ≡ w)
parts-same n v m w e = let same = some-same _ _ e in (ap (λ (p : Parts). p.name_end) same, ap (λ (p : Parts). p.value_start) same)

pub split-is : (t : List ℕ) (n v : ℕ) → split_of t ≡ parts_at n v → IsSplit t n v
unfolding split_of
split-is t n v e =
    let k = run_of (between 32 32) (drop (name_end t) t) in
    let h = cond-first (has_at t 0 95 && (leb 1 k && is_value (drop (value_start t) t))) (parts_at (name_end t) (value_start t)) None (parts_at n v) (no-parts n v) e in
    let a = and_both (has_at t 0 95) _ h.0 in
    let b = and_both (leb 1 k) _ a.1 in
    let at = parts-same _ _ _ _ h.1 in
    record { name-end = sym at.0; value-start = sym at.1; first = a.0; spaces = leb-true 1 k b.0; value = b.1 }

-- the value begins after the name and within the line
pub start-within : (t : List ℕ) → value_start t ≤ length t
start-within t =
    let a = run_short (other 32) t in
    let b = run_short (between 32 32) (drop (name_end t) t) in
    omega (arith, length-drop (name_end t) t)

module _ (t : List ℕ) (p : Parts) where
  pub name_taken : split_of t ≡ Some p → p.name_end ≡ length (take p.name_end t)
  name_taken e = sym (length-take-le p.name_end t (omega (arith, (split-is t p.name_end p.value_start e).name-end, run_short (other 32) t)))

  pub value_within : split_of t ≡ Some p → p.value_start ≤ length t
  value_within e = omega (arith, (split-is t p.name_end p.value_start e).value-start, start-within t)
