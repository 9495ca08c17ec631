-- Accepted lines: what is known of every one, with the converse for lines of one space.
-- Assumes nothing.
use Rattle.std.specs.Prelude.{Option, Some, None, Result, Ok, Err}
use mathlib.Core.Path.{◌≡◌, refl, sym, ap, ◌∙◌}
use mathlib.Core.Bool.{true, ◌&&◌}
use mathlib.Core.List.{List, ◌∷◌, ◌++◌}
use Prim.Native.Nat.{ℕ, ◌+◌, ◌≤◌}
use native.Mathlib.Omega.{arith}
use borrow.Author.Tests.{leb-true, le-leb}
use lib.Dec.{leb}
use lib.ListN.{length, take, drop, length-append, length-drop, length-map}
use Rattle.text.specs.Run.{all, between, other}
use Rattle.text_equality.specs.Same.{lower}
use Rattle.text.proofs.Bools.{and_both, cond-first}
use Rattle.text.proofs.Runs.{run_length, all_append, all_drop}
use Rattle.line_values.specs.Value.{is_value}
use Rattle.line_items.specs.Items.{item_count, item_row, item_of, IsName}
use Rattle.line_kinds.specs.Kinds.{passes}
use Rattle.line_items.specs.Typed.{line_most, is_typed}
use Rattle.line_reader.specs.Line.{name_end, parts_at, split_of, entry_at, named_class, split_class, class_of}
use Rattle.line_reader.specs.Wording.{IsLine}
use Rattle.line_reader.specs.declared.line.Parts.{Parts}
use Rattle.line_reader.specs.declared.line.LineEntry.{LineEntry}
use Rattle.line_reader.specs.declared.line.NoEntry.{NoEntry}
use Rattle.line_reader.specs.declared.line.NoEntry.TheVariants.{BadForm, WrongKind}
use Rattle.line_items.proofs.Names.{name-found, found_name, name_typed, name-first, name-unspaced}
use Rattle.line_reader.proofs.Splits.{split-is, start-within}
use Rattle.line_values.proofs.Values.{value-is}
use Rattle.line_reader.proofs.Wording.{line_taken, name-at, value-at}

-- the line t is an entry for item k, whose value begins at v
pub record IsEntry (t : List ℕ) (k v : ℕ) : Type 0 where
  pub short : length t ≤ line_most
  pub typed : all is_typed t ≡ true
  pub some : 1 ≤ k
  pub known : k ≤ item_count
  pub name : IsName (take (name_end t) t) k
  pub within : v ≤ length t
  pub room : length (item_row k).name + 1 + length (drop v t) ≤ line_most
  pub value : is_value (drop v t) ≡ true
  pub passes : passes k (drop v t) ≡ true
  pub value-typed : all is_typed (drop v t) ≡ true

-- a name is as long as its item's
name-length : {s : List ℕ} {k : ℕ} → IsName s k → length s ≡ length (item_row k).name
name-length {s} {k} h = sym (length-map s lower) ∙ ap length h.same ∙ length-map (item_row k).name lower

ok-same : (x y : LineEntry) → ◌≡◌ {A = Result LineEntry NoEntry} (Ok x) (Ok y) → x ≡ y
ok-same x y e = cc

-- the same entry has the same item and the same place
pub entry-same : (k v j w : ℕ) → entry_at k v ≡ entry_at j w → (k ≡ j) × (v ≡ w)
entry-same k v j w e = let same = ok-same _ _ e in (ap (λ (p : LineEntry). p.item) same, ap (λ (p : LineEntry). p.start) same)

pub no-bad-form : (k v : ℕ) → Err BadForm ≡ entry_at k v → ⊥
no-bad-form k v e = let z : ◌≡◌ {A = ℕ} 0 1 = cc in omega arith

pub no-wrong-kind : (k v : ℕ) → Err WrongKind ≡ entry_at k v → ⊥
no-wrong-kind k v e = let z : ◌≡◌ {A = ℕ} 0 1 = cc in omega arith

module _ (t : List ℕ) (k v : ℕ) (short : length t ≤ line_most) (typed : all is_typed t ≡ true) where
  parts_are : (n : ℕ) → split_of t ≡ parts_at n v → item_of (take n t) ≡ Some k → passes k (drop v t) ≡ true → IsEntry t k v
  parts_are n s i p =
      let h = split-is t n v s in
      let e : take n t ≡ take (name_end t) t = ap (λ (j : ℕ). take j t) h.name-end in
      let name : IsName (take (name_end t) t) k = rw e at (name-found (take n t) k i) in
      let value : is_value (drop v t) ≡ true = rw h.value-start h.value in
      let inside : v ≤ length t = omega (arith, start-within t) in
      let long : name_end t ≡ length (item_row k).name = sym (run_length (other 32) t) ∙ name-length name in
      let left = length-drop v t in
      record {
        short = short;
        typed = typed;
        some = name.first;
        known = name.last;
        name = name;
        within = inside;
        room = omega arith;
        value = value;
        passes = p;
        value-typed = all_drop is_typed v t typed;
      }

  named-is : (n w : ℕ) (x : Option ℕ) → split_of t ≡ parts_at n w → item_of (take n t) ≡ x → named_class t w x ≡ entry_at k v → IsEntry t k v
  named-is n w None s i e = let z : ◌≡◌ {A = ℕ} 0 1 = cc in absurd (omega arith)
  named-is n w (Some j) s i e =
      let h = cond-first (passes j (drop w t)) (entry_at j w) (Err WrongKind) (entry_at k v) (no-wrong-kind k v) e in
      let same = entry-same _ _ _ _ h.1 in
      let p = h.0 in
      let at = same.0 in
      let from = same.1 in
      let s' : split_of t ≡ parts_at n v = cc in
      let i' : item_of (take n t) ≡ Some k = cc in
      let p' : passes k (drop v t) ≡ true = cc in
      parts_are n s' i' p'

  split-entry : (x : Option Parts) → split_of t ≡ x → split_class t x ≡ entry_at k v → IsEntry t k v
  split-entry None s e = let z : ◌≡◌ {A = ℕ} 0 1 = cc in absurd (omega arith)
  split-entry (Some p) s e = named-is p.name_end p.value_start (item_of (take p.name_end t)) s refl e

-- what is known of an accepted line
pub entry-is : (t : List ℕ) (k v : ℕ) → class_of t ≡ entry_at k v → IsEntry t k v
unfolding class_of
entry-is t k v e =
    let h = cond-first (leb (length t) line_most && all is_typed t) (split_class t (split_of t)) (Err BadForm) (entry_at k v) (no-bad-form k v) e in
    let b = and_both (leb (length t) line_most) (all is_typed t) h.0 in
    split-entry t k v (leb-true (length t) line_most b.0) b.1 (split_of t) refl h.1

-- a space can be typed
one_typed : (value : List ℕ) → all is_typed value ≡ true → all is_typed (32 ∷ value) ≡ true
unfolding all between
one_typed value h = h

-- an item's name, one space and a value are a line
unfoldable pub one-space : (k : ℕ) (value : List ℕ) → 1 ≤ k → k ≤ item_count → is_value value ≡ true → IsLine ((item_row k).name ++ (32 ∷ value)) (item_row k).name value
one-space k value some known v =
    record {
      spaces = 1;
      text = refl;
      first = name-first k some known;
      no_spaces = name-unspaced k some known;
      some = omega arith;
      is_value = value-is value v;
    }

-- and where the value is of the item's kind, it is accepted
pub entry-taken : (k : ℕ) (value : List ℕ) → 1 ≤ k → k ≤ item_count → is_value value ≡ true → passes k value ≡ true → all is_typed value ≡ true
    → length (item_row k).name + 1 + length value ≤ line_most
    → class_of ((item_row k).name ++ (32 ∷ value)) ≡ entry_at k (length (item_row k).name + 1)
unfolding class_of one-space
entry-taken k value some known v p typed room =
    let name = (item_row k).name in
    let t : List ℕ = name ++ (32 ∷ value) in
    let line : IsLine t name value = one-space k value some known v in
    let short : length t ≤ line_most = omega (arith, length-append name (32 ∷ value)) in
    let all_typed : all is_typed t ≡ true = all_append is_typed name (32 ∷ value) (name_typed k some known) (one_typed value typed) in
    let found : item_of name ≡ Some k = found_name name k (record { first = some; last = known; same = refl }) in
    simp (le-leb (length t) line_most short, all_typed, line_taken t name value line, name-at t name value line, found, value-at t name value line, p)
