-- What is known of a value that fits its item.
-- Assumes nothing.
use mathlib.Core.Path.{◌≡◌}
use mathlib.Core.Bool.{true, ◌&&◌}
use mathlib.Core.Logic.{⊎_elim}
use mathlib.Core.List.{List}
use Prim.Native.Nat.{ℕ, ◌+◌, ◌≤◌}
use native.Mathlib.Omega.{arith}
use borrow.Author.Tests.{leb-true}
use lib.Dec.{leb}
use lib.ListN.{length}
use Rattle.text.specs.Run.{all}
use Rattle.text.proofs.Bools.{and_both, or-either}
use Rattle.line_quotes.specs.Quoted.{is_quoted_by, is_quoted}
use Rattle.line_values.specs.Value.{is_bare, is_value}
use Rattle.line_items.specs.Items.{item_count, item_row}
use Rattle.line_items.specs.Typed.{line_most, is_typed}
use Rattle.line_kinds.specs.Kinds.{passes, fits}
use Rattle.line_kinds.proofs.Passes.{passes-known}

-- a value has at least one byte
value-some : (v : List ℕ) → is_value v ≡ true → 1 ≤ length v
unfolding is_value is_bare is_quoted is_quoted_by
value-some v h =
    let two : (q : ℕ) → is_quoted_by q v ≡ true → 1 ≤ length v = λ q e. let k = leb-true 2 (length v) (and_both (leb 2 (length v)) _ e).0 in omega arith in
    ⊎_elim (λ (e : is_bare v ≡ true). leb-true 1 (length v) (and_both (leb 1 (length v)) _ e).0)
    (λ (e : is_quoted v ≡ true). ⊎_elim (two 39) (two 34) (or-either (is_quoted_by 39 v) (is_quoted_by 34 v) e))
    (or-either (is_bare v) (is_quoted v) h)

pub record Fitting (k : ℕ) (v : List ℕ) : Type 0 where
  pub some : 1 ≤ k
  pub known : k ≤ item_count
  pub passes : passes k v ≡ true
  pub value : is_value v ≡ true
  pub typed : all is_typed v ≡ true
  pub line : length (item_row k).name + 1 + length v ≤ line_most
  pub long : 1 ≤ length v
  pub short : length v ≤ line_most

pub fitting : (k : ℕ) (v : List ℕ) → fits k v ≡ true → Fitting k v
unfolding fits
fitting k v f =
    let room = leb (length (item_row k).name + 1 + length v) line_most in
    let a = and_both (passes k v) (is_value v && (all is_typed v && room)) f in
    let b = and_both (is_value v) (all is_typed v && room) a.1 in
    let c = and_both (all is_typed v) room b.1 in
    let known = passes-known k v a.0 in
    let line = leb-true (length (item_row k).name + 1 + length v) line_most c.1 in
    record {
      some = known.0;
      known = known.1;
      passes = a.0;
      value = b.0;
      typed = c.0;
      line = line;
      long = value-some v b.0;
      short = omega arith;
    }
