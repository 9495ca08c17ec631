-- Keys that are all accepted: one after the other, a text typed on an empty line, and the Enter of an item's line.
-- Assumes nothing.
use Rattle.std.specs.Prelude.{Result}
use mathlib.Core.Path.{◌≡◌, refl, sym, ap, ap₂, ◌∙◌}
use mathlib.Core.Bool.{true, false}
use mathlib.Core.List.{List, [], ◌∷◌, ◌++◌, map, append_assoc, append-nil, map-append}
use Prim.Native.Nat.{ℕ, ◌+◌, ◌-◌, ◌≤◌, ◌<◌}
use native.Mathlib.Omega.{arith}
use borrow.Author.Tests.{lt-ltb, le-leb, leb-true, ne_eqb}
use lib.Dec.{leb, eqb}
use lib.ListN.{length, drop, set, replicate, length-append, replicate-append-replicate}
use lib.Seq.{get_or-set_same, set-set, drop-append-add}
use Rattle.text.specs.Run.{all, between}
use Rattle.text.proofs.Bools.{and_both, and-true-true}
use Rattle.text.proofs.Runs.{all_append}
use Rattle.line_items.specs.Items.{item_count, item_row}
use Rattle.line_items.specs.Typed.{line_most, is_typed}
use Rattle.line_reader.specs.Line.{class_of, entry_at}
use Rattle.line_kinds.specs.Kinds.{passes, fits}
use Rattle.line_reader.specs.declared.line.LineEntry.{LineEntry}
use Rattle.line_reader.specs.declared.line.NoEntry.{NoEntry}
use Rattle.line_reader.proofs.Entries.{entry-taken}
use Rattle.line_items.proofs.NameTable.{name-of}
use Rattle.line_items.proofs.Names.{name_typed}
use Rattle.desk_log.specs.Record.{record_length}
use Rattle.desk_state.specs.Desks.{bench_count}
use Rattle.desk_soundness.specs.SoundLog.{log_most}
use Rattle.rows_sheet.specs.Sheet.{rows_of}
use Rattle.rows.specs.Rows.{no_rows}
use Rattle.rows.specs.declared.Rows.{Rows}
use Rattle.theorem_work.specs.Calls.{Call, key, Reply, keyed, answered, final, typing}
use Rattle.theorem_work.specs.Work.{Entry, Work, typed_by, records_of, table_answer, text_after, with_entry_of, entries_after, work_step}
use Rattle.theorem_work.proofs.OwnerLaws.{OneBench, one-bench-may, one-bench-sheet}
use Rattle.theorem_work.proofs.Gathering.{answered-append, final-append}
use Rattle.file_cif.specs.File.{ended_line, item_text}
use Rattle.line_kinds.proofs.Fitting.{fitting}

-- the work in which the bench has typed p, and the others nothing
abbrev pub work_of : ℕ → List ℕ → List Entry → Work
work_of bench p es = record { typed = set (replicate bench_count []) bench p; entries = es }

-- the entry of an item's line
abbrev pub entry_of : ℕ → ℕ → List ℕ → Entry
entry_of bench k v = record { bench = bench; item = k; value = v; line = item_text k v }

-- ---- calls that are all accepted, in a log of len bytes

module _ (len : ℕ) where
  abbrev play : Call → Work → Reply Rows × Work
  play = work_step rows_of no_rows len

  abbrev said : Work → List Call → List (Reply Rows)
  said w cs = map (λ p. p.1) (answered play w cs)

  -- from w the calls are all accepted, and leave v
  pub record Plays (w : Work) (cs : List Call) (v : Work) : Type 0 where
    pub accepted : said w cs ≡ replicate (length cs) (keyed 0)
    pub left : final play w cs ≡ v

  pub plays-none : (w : Work) → Plays w [] w
  plays-none w = record { accepted = refl; left = refl }

  plays-one : (c : Call) (w v : Work) → (play c w).0 ≡ keyed 0 → (play c w).1 ≡ v → Plays w (c ∷ []) v
  plays-one c w v a l = record { accepted = ap (λ (r : Reply Rows). r ∷ []) a; left = l }

  pub plays-then : (cs ds : List Call) (u v w : Work) → Plays u cs v → Plays v ds w → Plays u (cs ++ ds) w
  plays-then cs ds u v w p q =
      record {
        accepted =
            ap (map (λ p. p.1)) (answered-append play cs ds u)
            ∙ map-append (λ p. p.1) (answered play u cs) (answered play (final play u cs) ds)
            ∙ ap₂ (λ (a b : List (Reply Rows)). a ++ b) p.accepted (ap (λ (x : Work). said x ds) p.left ∙ q.accepted)
            ∙ replicate-append-replicate (length cs) (length ds) (keyed 0)
            ∙ ap (λ (n : ℕ). replicate n (keyed 0)) (sym (length-append cs ds));
        left = final-append play cs ds u ∙ ap (λ (x : Work). final play x ds) p.left ∙ q.left;
      }

  -- ---- the keys of one bench

  module _ (bench : ℕ) (there : bench < bench_count) (small : len ≤ log_most) where
    typed-is : (p : List ℕ) (es : List Entry) → typed_by (work_of bench p es) bench ≡ p
    typed-is p es = get_or-set_same (replicate bench_count []) bench p [] there

    -- a key that the table accepts
    key-plays : (p q : List ℕ) (es fs : List Entry) (byte : ℕ) → table_answer len es p bench byte ≡ 0
        → text_after 0 byte p ≡ q → entries_after 0 bench byte p es ≡ fs → Plays (work_of bench p es) (key bench byte ∷ []) (work_of bench q fs)
    key-plays p q es fs byte a t e =
        let at = typed-is p es in
        let a' : table_answer len es (typed_by (work_of bench p es) bench) bench byte ≡ 0 = ap (λ (x : List ℕ). table_answer len es x bench byte) at ∙ a in
        plays-one (key bench byte) (work_of bench p es) (work_of bench q fs) (ap keyed a')
        (ap₂ (λ (l : List (List ℕ)) (fs : List Entry). record { typed = l; entries = fs })
        (ap₂ (λ (y : ℕ) (x : List ℕ). set (set (replicate bench_count []) bench p) bench (text_after y byte x)) a' at
        ∙ set-set (replicate bench_count []) bench p (text_after 0 byte p)
        ∙ ap (set (replicate bench_count []) bench) t)
        (ap₂ (λ (y : ℕ) (x : List ℕ). entries_after y bench byte x es) a' at ∙ e))

    -- a byte that can be typed, on a line that is not full
    byte-plays : (p : List ℕ) (es : List Entry) (byte : ℕ) → is_typed byte ≡ true → length p < line_most → Plays (work_of bench p es) (key bench byte ∷ []) (work_of bench (p ++ (byte ∷ [])) es)
    unfolding table_answer between
    byte-plays p es byte h short =
        let low = leb-true 32 byte (and_both (leb 32 byte) (leb byte 126) h).0 in
        let plain : eqb byte 10 ≡ false = ne_eqb byte 10 (λ e. omega arith) in
        key-plays p (p ++ (byte ∷ [])) es es byte
        (rw (lt-ltb bench bench_count there, le-leb len log_most small, h, lt-ltb (length p) line_most short))
        (rw h)
        (rw plain)

    -- a text that can be typed, after what the bench has typed
    pub text-plays : (t p : List ℕ) (es : List Entry) → all is_typed t ≡ true → length p + length t ≤ line_most → Plays (work_of bench p es) (typing bench t) (work_of bench (p ++ t) es)
    unfolding all
    text-plays [] p es h short = rw (append-nil p) (plays-none (work_of bench p es))
    text-plays (b ∷ bs) p es h short =
        let k = and_both (is_typed b) (all is_typed bs) h in
        let n = length-append p (b ∷ []) in
        let first = byte-plays p es b k.0 (omega arith) in
        let rest = text-plays bs (p ++ (b ∷ [])) es k.1 (omega arith) in
        rw (append_assoc p (b ∷ []) bs) at (plays-then (key bench b ∷ []) (typing bench bs) (work_of bench p es) (work_of bench (p ++ (b ∷ [])) es) (work_of bench ((p ++ (b ∷ [])) ++ bs) es) first rest)

    -- Enter on the line of an entry, with room in the log; no other bench has an entry, so none owns the item
    enter-plays : (p : List ℕ) (k s : ℕ) (es : List Entry) → OneBench bench es → class_of p ≡ entry_at k s → length (records_of es) + record_length (drop s p) ≤ len
        → Plays (work_of bench p es) (key bench 10 ∷ []) (work_of bench [] (record { bench = bench; item = k; value = drop s p; line = p } ∷ es))
    unfolding table_answer between
    enter-plays p k s es alone c room =
        let u = length (records_of es) in
        key-plays p [] es (record { bench = bench; item = k; value = drop s p; line = p } ∷ es) 10
        (rw (lt-ltb bench bench_count there, le-leb len log_most small, c, one-bench-sheet es bench alone, one-bench-may es k bench alone, le-leb (record_length (drop s p)) (len - u) (omega arith)))
        refl
        (ap (λ (x : Result LineEntry NoEntry). with_entry_of x bench p es) c)

    -- a line that is an entry, and its Enter
    typed-plays : (p v : List ℕ) (k s : ℕ) (es : List Entry) → OneBench bench es → all is_typed p ≡ true → length p ≤ line_most → class_of p ≡ entry_at k s → drop s p ≡ v
        → length (records_of es) + record_length v ≤ len
        → Plays (work_of bench [] es) (typing bench (ended_line p)) (work_of bench [] (record { bench = bench; item = k; value = v; line = p } ∷ es))
    typed-plays p v k s es alone h short c e room =
        let enter = rw e at (enter-plays p k s es alone c (rw e room)) in
        rw (map-append (key bench) p (10 ∷ []))
        (plays-then (typing bench p) (key bench 10 ∷ []) (work_of bench [] es) (work_of bench p es) (work_of bench [] (record { bench = bench; item = k; value = v; line = p } ∷ es))
        (text-plays p [] es h (omega arith)) enter)

    -- the line of an item whose value fits
    pub line-plays : (k : ℕ) (v : List ℕ) (es : List Entry) → OneBench bench es → 1 ≤ k → k ≤ item_count → fits k v ≡ true → length (records_of es) + record_length v ≤ len
        → Plays (work_of bench [] es) (typing bench (ended_line (item_text k v))) (work_of bench [] (entry_of bench k v ∷ es))
    unfolding all between
    line-plays k v es alone some known f room =
        let name = (item_row k).name in
        let t : List ℕ = name ++ (32 ∷ v) in
        let g = fitting k v f in
        let c = entry-taken k v some known g.value g.passes g.typed g.line in
        let at : drop (length name + 1) t ≡ v = drop-append-add name (32 ∷ v) 1 in
        let typed : all is_typed t ≡ true = all_append is_typed name (32 ∷ v) (name_typed k some known) (and-true-true (is_typed 32) (all is_typed v) refl g.typed) in
        let long = length-append name (32 ∷ v) in
        rw (name-of k some known) (typed-plays t v k (length name + 1) es alone typed (omega (arith, g.line)) c at room)
