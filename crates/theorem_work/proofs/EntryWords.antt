-- An accepted Enter's line in document 01's words: a name of the item, spaces, and the value.
-- Assumes nothing.
use Rattle.line_reader.proofs.Entries.{entry-same}
use Rattle.std.specs.Prelude.{Option, Some, None, Result, Ok, Err}
use mathlib.Core.Path.{◌≡◌, refl}
use mathlib.Core.Bool.{Bool, true, cond, ◌&&◌}
use mathlib.Core.List.{List}
use Prim.Native.Nat.{ℕ, ◌-◌}
use native.Mathlib.Omega.{arith}
use borrow.Author.Tests.{eqb-true}
use lib.Dec.{ltb, leb}
use lib.ListN.{length, take, drop}
use Rattle.text.specs.Run.{all, between}
use Rattle.text.proofs.Bools.{cond-first}
use Rattle.line_items.specs.Items.{item_of, IsName}
use Rattle.line_kinds.specs.Kinds.{passes}
use Rattle.line_items.specs.Typed.{line_most, is_typed}
use Rattle.line_reader.specs.Line.{split_of, named_class, split_class, class_of, entry_at, parts_at}
use Rattle.line_reader.specs.Wording.{IsLine}
use Rattle.line_reader.specs.declared.line.Parts.{Parts}
use Rattle.line_reader.specs.declared.line.LineEntry.{LineEntry}
use Rattle.line_reader.specs.declared.line.NoEntry.{NoEntry}
use Rattle.line_reader.specs.declared.line.NoEntry.TheVariants as no_entry
use Rattle.line_items.proofs.Names.{name-found}
use Rattle.line_reader.proofs.Wording.{line-is}
use Rattle.desk_log.specs.Record.{record_length}
use Rattle.desk_state.specs.Desks.{bench_count, sheet_of_bench}
use Rattle.desk_soundness.specs.SoundLog.{log_most}
use Rattle.theorem_refusals.specs.KeyNumber.{enter_number}
use Rattle.theorem_work.specs.Work.{Entry, records_of, entries_of, may_write, table_answer, accepts}

-- the line t, with its name and its value, for item k
pub record Worded (t : List ℕ) (k v : ℕ) : Type 0 where
  pub name : List ℕ
  pub parts : IsLine t name (drop v t)
  pub item : IsName name k

module _ (t : List ℕ) (k v : ℕ) where
  named-worded : (n w : ℕ) (x : Option ℕ) → split_of t ≡ parts_at n w → item_of (take n t) ≡ x → named_class t w x ≡ entry_at k v → Worded t k v
  named-worded n w None s i e = let z : ◌≡◌ {A = ℕ} 0 1 = cc in absurd (omega arith)
  named-worded n w (Some j) s i e =
      let not-it : (Err no_entry.WrongKind) ≡ entry_at k v → ⊥ = λ q. let z : ◌≡◌ {A = ℕ} 0 1 = cc in omega arith in
      let same = entry-same _ _ _ _ (cond-first (passes j (drop w t)) (entry_at j w) (Err no_entry.WrongKind) (entry_at k v) not-it e).1 in
      let at = same.0 in
      let from = same.1 in
      let s' : split_of t ≡ parts_at n v = cc in
      let i' : item_of (take n t) ≡ Some k = cc in
      record { name = take n t; parts = line-is t n v s'; item = name-found (take n t) k i' }

  split-worded : (x : Option Parts) → split_of t ≡ x → split_class t x ≡ entry_at k v → Worded t k v
  split-worded None s e = let z : ◌≡◌ {A = ℕ} 0 1 = cc in absurd (omega arith)
  split-worded (Some p) s e = named-worded p.name_end p.value_start (item_of (take p.name_end t)) s refl e

  pub entry-worded : class_of t ≡ entry_at k v → Worded t k v
  unfolding class_of
  entry-worded e =
      let not-it : (Err no_entry.BadForm) ≡ entry_at k v → ⊥ = λ q. let z : ◌≡◌ {A = ℕ} 0 1 = cc in omega arith in
      split-worded (split_of t) refl (cond-first (leb (length t) line_most && all is_typed t) (split_class t (split_of t)) (Err no_entry.BadForm) (entry_at k v) not-it e).1

-- an Enter that the table accepts has the line of an entry, whose item the bench may write
pub record Accepts (t : List ℕ) (may : ℕ → Bool) : Type 0 where
  pub item : ℕ
  pub start : ℕ
  pub class-is : class_of t ≡ entry_at item start
  pub allowed : may item ≡ true

class-accepts : (t : List ℕ) (may : ℕ → Bool) (free : ℕ) (c : Result LineEntry NoEntry) → class_of t ≡ c → enter_number c t may free ≡ 0 → Accepts t may
class-accepts t may free (Err no_entry.BadForm) e h = absurd (omega arith)
class-accepts t may free (Err no_entry.UnknownName) e h = absurd (omega arith)
class-accepts t may free (Err no_entry.WrongKind) e h = absurd (omega arith)
class-accepts t may free (Ok at) e h =
    let item = at.item in
    let start = at.start in
    let not-it : ◌≡◌ {A = ℕ} 9 0 → ⊥ = λ q. omega arith in
    record { item = item; start = start; class-is = e; allowed = (cond-first (may item) (cond (leb (record_length (drop start t)) free) 0 8) 9 0 not-it h).0 }

pub enter-accepts : (len : ℕ) (es : List Entry) (t : List ℕ) (bench : ℕ) → table_answer len es t bench 10 ≡ 0
    → Accepts t (λ item. may_write (entries_of (sheet_of_bench bench) es) item bench)
unfolding table_answer between
enter-accepts len es t bench h =
    let may : ℕ → Bool = λ item. may_write (entries_of (sheet_of_bench bench) es) item bench in
    let free = len - length (records_of es) in
    let a = enter_number (class_of t) t may free in
    let no-bench : ◌≡◌ {A = ℕ} 1 0 → ⊥ = λ q. omega arith in
    let not_sound : ◌≡◌ {A = ℕ} 2 0 → ⊥ = λ q. omega arith in
    let h1 = (cond-first (ltb bench bench_count) (cond (leb len log_most) a 2) 1 0 no-bench h).1 in
    let h2 = (cond-first (leb len log_most) a 2 0 not_sound h1).1 in
    class-accepts t may free (class_of t) refl h2

-- the answer with number 0
pub accepted-only : (a : ℕ) → accepts a ≡ true → a ≡ 0
accepted-only a e = eqb-true a 0 e
