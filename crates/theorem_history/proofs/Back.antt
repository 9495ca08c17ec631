-- "The used log of any desk grown by these rules gives back its sheets exactly" (document 02, No. 10).
-- Assumes nothing.
use mathlib.Core.Path.{◌≡◌, refl, sym, ap, ◌∙◌}
use mathlib.Core.Bool.{Bool, true, false}
use mathlib.Core.List.{List, [], ◌∷◌, ◌++◌, append_assoc, append-nil}
use Prim.Native.Nat.{ℕ, ◌+◌, ◌≤◌}
use native.Mathlib.Omega.{arith}
use native.Mathlib.Nat.{add-zero}
use borrow.Author.Tests.{eq-eqb}
use lib.Dec.{eqb}
use lib.ListN.{length, take, drop, length-append}
use lib.Seq.{take_at, drop_at}
use Rattle.desk_log.specs.Record.{record_length, length_told}
use Rattle.reader_cuts.specs.Reading.{length_most, bad_length, Reading, ended, short, read_all}
use Rattle.reader_cuts.proofs.Laws.{length-good, read-few, read-bad, read-refused, read_taken, every-reading}
use Rattle.reader_cuts.proofs.Firsts.{read-undecided}
use Rattle.theorem_history.specs.Histories.{Noted, record_for, records, Grown, still, entry, noting_refusal, noting_store, history_in, NotesBeside}

-- a record says its own length
pub says-length : (e : Noted) (x : List ℕ) → record_length e.value ≤ length_most → length_told (record_for e ++ x) ≡ record_length e.value
unfolding length_told
says-length e x h = omega arith

pub length-record : (e : Noted) → length (record_for e) ≡ record_length e.value
length-record e = omega arith

module _ {S : Type 0} (refusal : ℕ → List ℕ → S → ℕ) (store : List ℕ → S → S) where
  pub read_back : {s t : S} {at : ℕ} {es : List Noted} → Grown refusal store s at es t
      → read_all refusal store true s at (records es) ≡ ended 0 t (at + length (records es))
  read_back {s} {t} {at} still = read-few refusal store true s at [] (omega arith) ∙ ap (λ (n : ℕ). ended 0 s n) (sym (add-zero at))
  read_back {s} {t} {at} (entry {e = e} {es = es} a b c g) =
      let n : ℕ = record_length e.value in
      let bs : List ℕ = record_for e ++ records es in
      let l = says-length e (records es) b in
      let len = length-record e in
      let all = length-append (record_for e) (records es) in
      let r : take (length_told bs) bs ≡ record_for e = rw l (take_at (record_for e) (records es) n len) in
      let d : drop (length_told bs) bs ≡ records es = rw l (drop_at (record_for e) (records es) n len) in
      let good : bad_length (length_told bs) ≡ false = rw l (length-good n (omega arith) b) in
      let ok : eqb (refusal at (take (length_told bs) bs) s) 0 ≡ true = rw r (eq-eqb (refusal at (record_for e) s) 0 c) in
      let end : at + n + length (records es) ≡ at + length bs = omega arith in
      read_taken refusal store true s at bs (omega arith) good (omega arith) ok
      ∙ ap (λ (x : List ℕ). read_all refusal store true (store x s) (at + length_told bs) (drop (length_told bs) bs)) r
      ∙ ap (λ (x : List ℕ). read_all refusal store true (store (record_for e) s) (at + length_told bs) x) d
      ∙ ap (λ (x : ℕ). read_all refusal store true (store (record_for e) s) (at + x) (records es)) l
      ∙ read_back g ∙ ap (λ (x : ℕ). ended 0 t x) end

-- ---- the history that a log tells

module _ {S : Type 0} (refusal : ℕ → List ℕ → S → ℕ) (store : List ℕ → S → S) where
  -- entries that are each taken are noted in order
  grown-noting : {s t : S} {at : ℕ} {es : List Noted} (fs : List Noted) → Grown refusal store s at es t
      → Grown (noting_refusal refusal store) (noting_store refusal store) (s, fs) at es (t, fs ++ es)
  grown-noting fs still = rw (append-nil fs) still
  grown-noting {s} {t} {at} fs (entry {e = e} {es = es} a b c g) =
      let k : Grown (noting_refusal refusal store) (noting_store refusal store) (store (record_for e) s, fs ++ (e ∷ [])) (at + record_length e.value) es (t, (fs ++ (e ∷ [])) ++ es)
      = grown-noting (fs ++ (e ∷ [])) g in
      entry {e = e} a b c (rw (append_assoc fs (e ∷ []) es) at k)

  -- "One log, one history": reading a used log gives the entries that left it, in order
  pub history-told : {s t : S} {es : List Noted} → Grown refusal store s 0 es t → history_in refusal store s (records es) ≡ es
  history-told g = ap (λ (r : Reading (S × List Noted)). r.sheets.1) (read_back (noting_refusal refusal store) (noting_store refusal store) (grown-noting [] g))

  -- a reading without its notes
  abbrev plain : Reading (S × List Noted) → Reading S
  plain r = record { sheets = r.sheets.0; at = r.at; rest = r.rest; over = r.over; answer = r.answer }

  plain-short : (last : Bool) (s : S × List Noted) (at : ℕ) (bs : List ℕ) → short last s.0 at bs ≡ plain (short last s at bs)
  plain-short false s at bs = refl
  plain-short true s at [] = refl
  plain-short true s at (b ∷ bs) = refl

  same-reading : (last : Bool) (s : S × List Noted) (at : ℕ) (bs : List ℕ)
      → read_all refusal store last s.0 at bs ≡ plain (read_all (noting_refusal refusal store) (noting_store refusal store) last s at bs)
  same-reading last s at bs =
      every-reading (noting_refusal refusal store) (noting_store refusal store) last (λ t k cs r. read_all refusal store last t.0 k cs ≡ plain r)
      (λ t k cs u. read-undecided refusal store last t.0 k cs u ∙ plain-short last t k cs)
      (λ t k cs h b. read-bad refusal store last t.0 k cs h b)
      (λ t k cs h g w e. read-refused refusal store last t.0 k cs h g w e)
      (λ t k cs r h g w e p. read_taken refusal store last t.0 k cs h g w e ∙ p) s at bs

  pub notes-beside : (s : S) (log : List ℕ) → NotesBeside refusal store s log
  notes-beside s log =
      let e = sym (same-reading true (s, []) 0 log) in
      record { answer = ap (λ (r : Reading S). r.answer) e; at = ap (λ (r : Reading S). r.at) e; sheets = ap (λ (r : Reading S). r.sheets) e }
