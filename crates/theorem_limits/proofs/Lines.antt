-- Lines of at most 80 bytes are what they were, but for the names of items 11 to 19, which were none (document 02, No. 11 and 12); entries are the same
-- entries, and their records have the same bytes (document 02, No. 6: "the same bench, item and value give the same record bytes as before").
-- Assumes nothing.
use Rattle.std.specs.Prelude.{Option, Some, None, Result, Err}
use native.Mathlib.Omega.{arith}
use mathlib.Core.Path.{◌≡◌, refl, sym, ◌∙◌, ap, subst}
use mathlib.Core.Bool.{Bool, true, false, cond, ◌&&◌}
use mathlib.Core.List.{List, [], ◌∷◌, ◌++◌}
use Prim.Native.Nat.{ℕ, zero, suc, ◌+◌, ◌≤◌, ◌<◌}
use lib.Dec.{leb, ltb}
use lib.ListN.{length, take, drop}
use borrow.Author.Tests.{le-leb, leb-true, lt-ltb, le-ltb}
use Rattle.text.specs.Run.{all}
use Rattle.text.proofs.Bools.{cond-first, and_both}
use Rattle.text_equality.specs.Same.{same_folded}
use Rattle.line_items.specs.Items.{ItemRow, items, find_from, item_of}
use Rattle.line_items.specs.Typed.{line_most, is_typed}
use Rattle.line_kinds.specs.Kinds.{passes}
use Rattle.line_reader.specs.Line.{name_end, split_of, named_class, split_class, class_of, entry_at}
use Rattle.line_reader.specs.declared.line.Parts.{Parts}
use Rattle.line_reader.specs.declared.line.LineEntry.{LineEntry}
use Rattle.line_reader.specs.declared.line.NoEntry.{NoEntry}
use Rattle.line_reader.specs.declared.line.NoEntry.TheVariants.{BadForm, UnknownName, WrongKind}
use Rattle.line_reader.proofs.Splits.{split-is}
use Rattle.line_reader.proofs.Entries.{no-bad-form, no-wrong-kind, entry-same}
use Rattle.desk_log.specs.Record.{record_length, record_of, with_record}
use Rattle.desk_state.specs.Lines.{typed}
use Rattle.desk_state.specs.Desks.{line_at}
use Rattle.desk_state.specs.declared.desk.Desk.{Desk}
use Rattle.desk_keys.specs.Key.{stored_if_open, entered_as, enter}
use Rattle.theorem_limits.specs.Before.{old_most, old_count, old_item_of, old_split_class, old_class, old_record}

-- ---- the names

-- what was found, if it counts below b
abbrev earlier : ℕ → Option ℕ → Option ℕ
earlier b None = None
earlier b (Some k) = cond (ltb k b) (Some k) None

-- a table that counts from b on has no row below b
none-by : (t : Bool) (b n : ℕ) (x : Option ℕ) → b ≤ n → earlier b x ≡ None → earlier b (cond t (Some n) x) ≡ None
none-by true b n x h e = simp (le-ltb n b h)
none-by false b n x h e = e

none-earlier : (rs : List ItemRow) (b n : ℕ) (s : List ℕ) → b ≤ n → earlier b (find_from n rs s) ≡ None
unfolding find_from
none-earlier [] b n s h = refl
none-earlier (r ∷ rs) b n s h = none-by (same_folded s r.name) b n (find_from (suc n) rs s) h (none-earlier rs b (suc n) s (omega (arith, h)))

first_by : (t : Bool) (b n : ℕ) (x y : Option ℕ) → n < b → x ≡ earlier b y → cond t (Some n) x ≡ earlier b (cond t (Some n) y)
first_by true b n x y h e = simp (lt-ltb n b h)
first_by false b n x y h e = e

-- the first m rows find what the whole table finds among them, and else nothing
first_rows : (m : ℕ) (rs : List ItemRow) (n : ℕ) (s : List ℕ) → find_from n (take m rs) s ≡ earlier (n + m) (find_from n rs s)
unfolding find_from
first_rows zero rs n s = sym (none-earlier rs (n + 0) n s (omega arith))
first_rows (suc m) [] n s = refl
first_rows (suc m) (r ∷ rs) n s =
    let e : suc n + m ≡ n + suc m = omega arith in
    let later = first_rows m rs (suc n) s ∙ ap (λ (b : ℕ). earlier b (find_from (suc n) rs s)) e in
    first_by (same_folded s r.name) (n + suc m) n (find_from (suc n) (take m rs) s) (find_from (suc n) rs s) (omega arith) later

-- the ten names are those of the items up to the tenth
old-item : (s : List ℕ) → old_item_of s ≡ earlier (1 + old_count) (item_of s)
old-item s = first_rows old_count items 1 s

early-same : (b : ℕ) (x : Option ℕ) → ((k : ℕ) → x ≡ Some k → k < b) → x ≡ earlier b x
early-same b None few = refl
early-same b (Some k) few = simp (lt-ltb k b (few k refl))

-- ---- lines

module _ (t : List ℕ) where
  -- the line's name is that of no item after the tenth
  abbrev pub OldName : Type 0
  OldName = (k : ℕ) → item_of (take (name_end t) t) ≡ Some k → k ≤ old_count

  split-as-before : OldName → (x : Option Parts) → split_of t ≡ x → split_class t x ≡ old_split_class t x
  split-as-before old None e = refl
  split-as-before old (Some p) e =
      let n = p.name_end in
      let v = p.value_start in
      let s = take (name_end t) t in
      let same : item_of s ≡ old_item_of s = early-same (1 + old_count) (item_of s) (λ k q. omega (arith, old k q)) ∙ sym (old-item s) in
      ap (named_class t v) (subst (λ (j : ℕ). item_of (take j t) ≡ old_item_of (take j t)) (sym (split-is t n v e).name-end) same)

  -- a line that the old limit allows, with an old name, is what it was: an entry of the same item and value, or the same refusal
  pub line-as-before : length t ≤ old_most → OldName → class_of t ≡ old_class t
  unfolding class_of old_class
  line-as-before h old =
      let same = ap (λ (c : Result LineEntry NoEntry). cond (all is_typed t) c (Err BadForm)) (split-as-before old (split_of t) refl) in
      simp (le-leb (length t) line_most (omega (arith, h)), le-leb (length t) old_most h) same

-- ---- entries

unknown-refuses : (item start : ℕ) → Err UnknownName ≡ entry_at item start → ⊥
unknown-refuses item start e = let z : ◌≡◌ {A = ℕ} 0 1 = cc in omega arith

module _ (t : List ℕ) (item start : ℕ) where
  stays_by : (b : Bool) (v k : ℕ) → named_class t v (cond b (Some k) None) ≡ entry_at item start → named_class t v (Some k) ≡ entry_at item start
  stays_by true v k e = e
  stays_by false v k e = absurd (unknown-refuses item start e)

  named-stays : (b v : ℕ) (x : Option ℕ) → named_class t v (earlier b x) ≡ entry_at item start → named_class t v x ≡ entry_at item start
  named-stays b v None e = e
  named-stays b v (Some k) e = stays_by (ltb k b) v k e

  split_stays : (x : Option Parts) → old_split_class t x ≡ entry_at item start → split_class t x ≡ entry_at item start
  split_stays None e = e
  split_stays (Some p) e = named-stays (1 + old_count) p.value_start (item_of (take p.name_end t)) (ap (named_class t p.value_start) (sym (old-item (take p.name_end t))) ∙ e)

  -- a line that was an entry is the same entry
  pub entry-as-before : old_class t ≡ entry_at item start → class_of t ≡ entry_at item start
  unfolding class_of old_class
  entry-as-before e =
      let taken = cond-first (leb (length t) old_most && all is_typed t) (old_split_class t (split_of t)) (Err BadForm) (entry_at item start) (no-bad-form item start) e in
      let both = and_both (leb (length t) old_most) (all is_typed t) taken.0 in
      let short = leb-true (length t) old_most both.0 in
      simp (le-leb (length t) line_most (omega (arith, short)), both.1) (split_stays (split_of t) taken.1)

  named_new : (b v : ℕ) (x : Option ℕ) → b ≤ item → named_class t v x ≡ entry_at item start → named_class t v (earlier b x) ≡ Err UnknownName
  named_new b v None h e = refl
  named_new b v (Some k) h e =
      let q = (cond-first (passes k (drop v t)) (entry_at k v) (Err WrongKind) (entry_at item start) (no-wrong-kind item start) e).1 in
      let at = (entry-same _ _ _ _ q).0 in
      simp (le-ltb k b (omega (arith, h, at)))

  split-new : old_count < item → (x : Option Parts) → split_class t x ≡ entry_at item start → old_split_class t x ≡ Err UnknownName
  split-new h None e = absurd (no-bad-form item start e)
  split-new h (Some p) e = ap (named_class t p.value_start) (old-item (take p.name_end t)) ∙ named_new (1 + old_count) p.value_start (item_of (take p.name_end t)) (omega (arith, h)) e

  -- of the lines that the old limit allows only entries of items after the tenth are new: their names were unknown
  pub new-names-were-unknown : length t ≤ old_most → old_count < item → class_of t ≡ entry_at item start → old_class t ≡ Err UnknownName
  unfolding class_of old_class
  new-names-were-unknown short h e =
      let taken = cond-first (leb (length t) line_most && all is_typed t) (split_class t (split_of t)) (Err BadForm) (entry_at item start) (no-bad-form item start) e in
      let both = and_both (leb (length t) line_most) (all is_typed t) taken.0 in
      simp (le-leb (length t) old_most short, both.1) (split-new h (split_of t) taken.1)

-- Enter stores it for the same item, with the same value, if no other bench owns the item (document 02, No. 8)
pub enter-as-before : (d : Desk) (used : ℕ) (log : List ℕ) (bench item start : ℕ)
    → (let t = typed (line_at d bench) in old_class t ≡ entry_at item start → enter d used log bench ≡ stored_if_open d used log bench item (drop start t))
enter-as-before d used log bench item start e =
    let t = typed (line_at d bench) in
    ap (λ (c : Result LineEntry NoEntry). entered_as c d used log bench t) (entry-as-before t item start e)

-- a record's bytes are those of document 01, whatever the value
pub record-as-before : (bench item : ℕ) (value : List ℕ) → record_of bench item value ≡ old_record bench item value
record-as-before bench item value = refl

-- the log with a record more, in these bytes
pub log-as-before : (used : ℕ) (log : List ℕ) (bench item : ℕ) (value : List ℕ)
    → with_record used log bench item value ≡ take used log ++ (old_record bench item value ++ drop (used + record_length value) log)
log-as-before used log bench item value = refl
