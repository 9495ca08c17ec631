-- The reports of a sound desk: an item of kind number holds a number or is missing, so that what the rules compare is there exactly when it is not missing.
-- Assumes nothing.
use Rattle.std.specs.Prelude.{ℤ, Option, Some, None}
use mathlib.Core.Path.{◌≡◌, refl, sym, ap, subst, subst⁻¹, ◌∙◌}
use mathlib.Core.Bool.{Bool, true, false, ◌&&◌, false≢true}
use mathlib.Core.List.{List, [], ◌∷◌}
use mathlib.Core.Logic.{◌⊎◌, inl, inr, ⊎_elim, ◌↔◌}
use Prim.Native.Nat.{ℕ, ◌+◌, ◌-◌, ◌≤◌, ◌<◌}
use native.Mathlib.Omega.{arith}
use borrow.Author.Tests.{lt-ltb, leb-true, leb-false}
use lib.Dec.{leb}
use lib.ListN.{length, take, length-take, get_or-eq_default}
use Rattle.text.specs.Run.{all, between}
use Rattle.text.proofs.Bools.{and_both}
use Rattle.text.proofs.Tables.{agree}
use Rattle.number_decimal.specs.Reading.{reading_of}
use Rattle.number_decimal.proofs.Agree as agreed
use Rattle.line_values.specs.Value.{is_unassigned}
use Rattle.line_items.specs.Items.{items, item_row}
use Rattle.line_items.specs.Typed.{line_most}
use Rattle.line_items.specs.declared.Kind.{Kind}
use Rattle.line_items.specs.declared.Kind.TheVariants as kind
use Rattle.line_kinds.specs.Wording.{Unassigned, NumberText, OfKind, Passes}
use Rattle.desk_state.specs.Sheets.{no_item, value_in, item_at, value_at}
use Rattle.desk_state.specs.Desks.{sheet_count, sheet_at}
use Rattle.desk_state.specs.declared.desk.Desk.{Desk}
use Rattle.desk_state.specs.declared.sheet.Item.{Item}
use Rattle.desk_state.specs.declared.sheet.Sheet.{Sheet}
use Rattle.desk_memory.specs.Memory.{is_desk, desk_of}
use Rattle.desk_memory.proofs.Desks.{sheets-long}
use Rattle.desk_soundness.specs.Sound.{sound_desk}
use Rattle.desk_soundness.specs.SoundMemory.{sound_memory}
use Rattle.desk_soundness.specs.Wording.{SoundItem, Sound}
use Rattle.desk_soundness.proofs.Wording.{sound-is}
use Rattle.rows.specs.Rows.{profile_count, powder, no_alert, missing}
use Rattle.rows.specs.declared.Row.{Row}
use Rattle.rows.specs.declared.Rows.{Rows}
use Rattle.rows_counts.specs.Counts.{rules, rule_of, keeps, count_row}
use Rattle.rows_counts.specs.Wording.{There, compared, AllThere, Broken, reason_of, Judges}
use Rattle.rows_counts.proofs.Fires.{count-rows, row-left-out}
use Rattle.rows_counts.proofs.Missing.{there-assigned}
use Rattle.rows_moiety.specs.Wording.{Row25}
use Rattle.rows_moiety.proofs.Words.{row-25-words}
use Rattle.rows_sheet.specs.Sheet.{first_rows, rows_of, row_at}
use Rattle.rows_sheet.proofs.Profiles.{powder-no-more}
use Rattle.desk_questions.specs.Report.{Report, reported_of, report_lent}
use Rattle.theorem_profiles.specs.Profiles.{NoneMissing, reported_row, Profiled, DeskProfiled, LentProfiled}

-- a value of kind number is missing or a number
pub number-or-missing : (item : ℕ) (v : List ℕ) → (item_row item).kind ≡ kind.Number → Passes item v → (missing v ≡ true) ⊎ There v
unfolding missing is_unassigned
number-or-missing item v k (Passes.unassigned (Unassigned.question e)) = inl (rw e)
number-or-missing item v k (Passes.unassigned (Unassigned.point e)) = inl (rw e)
number-or-missing item v k (Passes.of_kind h) = inr (go (subst (λ (x : Kind). OfKind x v) k h) (reading_of v) refl)
  where
    go : NumberText v → (r : Option ℤ) → reading_of v ≡ r → There v
    go n (Some z) e = record { worth = z; read = e; so = tt }
    go n None e = absurd (agreed.agree v None (sym e) n.denoted n.is_number)

-- items 11 to 18 are of kind number: one test that antt computes
numbers : (k : ℕ) → k < 8 → (item_row (11 + k)).kind ≡ kind.Number
unfolding items
numbers = agree (λ (k : ℕ). (item_row (11 + k)).kind) (λ (k : ℕ). kind.Number) kind.Text 8 refl

-- the items whose numbers the rules compare hold numbers or are missing
module _ (d : Desk) (sound : Sound d) (sheet : ℕ) (here : sheet < length d.sheets) where
  abbrev at : ℕ → List ℕ
  at = value_at (sheet_at d sheet)

  held : (item : ℕ) → 11 ≤ item → item ≤ 18 → SoundItem sheet (sheet_at d sheet).count item (item_at (sheet_at d sheet) item) → (missing (at item) ≡ true) ⊎ There (at item)
  unfolding missing is_unassigned
  held item first last (SoundItem.empty e) = inl (rw e.len)
  held item first last (SoundItem.filled f) =
      let k : 11 + (item - 11) ≡ item = omega arith in
      number-or-missing item (at item) (rw k at (numbers (item - 11) (omega arith))) f.kind

  pub compared-held : (item : ℕ) → 11 ≤ item → item ≤ 18 → (missing (at item) ≡ true) ⊎ There (at item)
  unfolding missing
  compared-held item first last = go (leb item (length (sheet_at d sheet).items)) refl
    where
      go : (t : Bool) → leb item (length (sheet_at d sheet).items) ≡ t → (missing (at item) ≡ true) ⊎ There (at item)
      go true e = held item first last (sound.items sheet here item (omega arith) (leb-true item _ e))
      go false e =
          let past = leb-false item _ e in
          inl (ap (λ (i : Item). missing (value_in i)) (get_or-eq_default (sheet_at d sheet).items no_item {n = item - 1} (omega arith)))

  none-missing : (is : List ℕ) → all (between 11 18) is ≡ true → NoneMissing at is ↔ AllThere at is
  unfolding all between
  none-missing [] e = ((λ h. h), (λ h. h))
  none-missing (i ∷ is) e =
      let b = and_both (leb 11 i && leb i 18) (all (between 11 18) is) e in
      let c = and_both (leb 11 i) (leb i 18) b.0 in
      let rest = none-missing is b.1 in
      let held = compared-held i (leb-true 11 i c.0) (leb-true i 18 c.1) in
      ((λ h. (⊎_elim (λ m. absurd (false≢true (sym h.0 ∙ m))) (λ t. t) held, rest.0 h.1)), (λ h. (there-assigned (at i) h.0, rest.1 h.1)))

  -- the value of every item is one that a line can hold
  pub short : (item : ℕ) → 1 ≤ item → length (at item) ≤ line_most
  short item some = go (leb item (length (sheet_at d sheet).items)) refl
    where
      of : SoundItem sheet (sheet_at d sheet).count item (item_at (sheet_at d sheet) item) → length (at item) ≤ line_most
      of (SoundItem.empty e) =
          let i = item_at (sheet_at d sheet) item in
          omega (arith, e.len, length-take i.len i.value)
      of (SoundItem.filled f) = omega (arith, f.line)

      go : (t : Bool) → leb item (length (sheet_at d sheet).items) ≡ t → length (at item) ≤ line_most
      go true e = of (sound.items sheet here item some (leb-true item _ e))
      go false e =
          let past = leb-false item _ e in
          let none = ap (λ (i : Item). length (value_in i)) (get_or-eq_default (sheet_at d sheet).items no_item {n = item - 1} (omega arith)) in
          omega (arith, none)

-- the items that the table compares: one test that antt computes
in_table : (k : ℕ) → k < 12 → all (between 11 18) (compared (rule_of (13 + k))) ≡ true
unfolding rules rule_of all between
in_table = agree (λ (k : ℕ). all (between 11 18) (compared (rule_of (13 + k)))) (λ (k : ℕ). true) true 12 refl

-- what is said with one way to say that nothing is missing is said with another
said-as : {whole other broken : Type 0} {reason : ℕ} {r : Row} → other ↔ whole → Judges whole broken reason r → Judges other broken reason r
said-as q j = record {
  fires = ((λ e. let h = j.fires.0 e in (q.1 h.0, h.1)), (λ h. j.fires.1 (q.0 h.0, h.1)));
  fired = j.fired;
  gap = λ n. j.gap (λ w. n (q.1 w));
  quiet = λ w n. j.quiet (q.0 w) n;
}

-- the row of a number from 13 to 24
row_is : (profile : ℕ) (s : Sheet) (row : ℕ) → 13 ≤ row → row ≤ 24 → row_at (rows_of profile s) row ≡ count_row profile (value_at s) row
row_is profile s row first last =
    let k : 13 + (row - 13) ≡ row = omega arith in
    rw k at (agree (λ (k : ℕ). row_at (rows_of profile s) (13 + k)) (λ (k : ℕ). count_row profile (value_at s) (13 + k)) no_alert 12 refl (row - 13) (omega arith))

-- the rows of a report that is not refused
report-rows : (d : Desk) (sheet profile : ℕ) → sound_desk d ≡ true → sheet < sheet_count → profile < profile_count → (reported_of d sheet profile).rows ≡ rows_of profile (sheet_at d sheet)
unfolding reported_of
report-rows d sheet profile e on p = simp (lt-ltb sheet sheet_count on, lt-ltb profile profile_count p, e)

-- reports that have the rows of a sheet of a sound desk
rows-profiled : (d : Desk) → sound_desk d ≡ true → (sheet : ℕ) → sheet < length d.sheets → (of : ℕ → Report)
    → ((profile : ℕ) → profile < profile_count → (of profile).rows ≡ rows_of profile (sheet_at d sheet)) → Profiled (sheet_at d sheet) of
rows-profiled d e sheet here of report = record { counted = counted; left_out = left_out; first = first; last = last; no_more = no_more }
  where
    counted : (profile row : ℕ) → profile < profile_count → 13 ≤ row → row ≤ 24 → keeps profile row ≡ true
        → Judges (NoneMissing (value_at (sheet_at d sheet)) (compared (rule_of row))) (Broken (value_at (sheet_at d sheet)) (rule_of row)) (reason_of row) (reported_row (sheet_at d sheet) of profile row)
    counted profile row p first last kept =
        let k : 13 + (row - 13) ≡ row = omega arith in
        let q : row_at (of profile).rows row ≡ count_row profile (value_at (sheet_at d sheet)) row =
        ap (λ (r : Rows). row_at r row) (report profile p) ∙ row_is profile (sheet_at d sheet) row first last in
        let named : all (between 11 18) (compared (rule_of row)) ≡ true = rw k at (in_table (row - 13) (omega arith)) in
        subst⁻¹ (Judges (NoneMissing (value_at (sheet_at d sheet)) (compared (rule_of row))) (Broken (value_at (sheet_at d sheet)) (rule_of row)) (reason_of row)) q
        (said-as (none-missing d (sound-is d e) sheet here (compared (rule_of row)) named) (count-rows profile (value_at (sheet_at d sheet)) row first last kept))

    left_out : (profile row : ℕ) → profile < profile_count → 13 ≤ row → row ≤ 24 → keeps profile row ≡ false → reported_row (sheet_at d sheet) of profile row ≡ no_alert
    left_out profile row p first last left =
        ap (λ (r : Rows). row_at r row) (report profile p) ∙ row_is profile (sheet_at d sheet) row first last ∙ row-left-out profile (value_at (sheet_at d sheet)) row left

    first : (profile : ℕ) → profile < profile_count → take 12 (of profile).rows.rows ≡ first_rows (sheet_at d sheet)
    first profile p = ap (λ (r : Rows). take 12 r.rows) (report profile p)

    last : (profile : ℕ) → profile < profile_count → Row25 (value_at (sheet_at d sheet) 1) (value_at (sheet_at d sheet) 19) (reported_row (sheet_at d sheet) of profile 25)
    last profile p =
        let typed = short d (sound-is d e) sheet here in
        subst⁻¹ (Row25 (value_at (sheet_at d sheet) 1) (value_at (sheet_at d sheet) 19)) (ap (λ (r : Rows). row_at r 25) (report profile p))
        (row-25-words (value_at (sheet_at d sheet) 1) (value_at (sheet_at d sheet) 19) (typed 1 (omega arith)) (typed 19 (omega arith)))

    no_more : (row : ℕ) → ((reported_row (sheet_at d sheet) of powder row).level ≡ 0) ⊎ ((reported_row (sheet_at d sheet) of powder row).level ≡ (reported_row (sheet_at d sheet) of 0 row).level)
    no_more row =
        let a = report powder (omega arith) in
        let b = report 0 (omega arith) in
        rw (a, b) (powder-no-more (sheet_at d sheet) row)

-- the reports of every sheet of a sound desk
pub profiled : (d : Desk) → sound_desk d ≡ true → (sheet : ℕ) → sheet < sheet_count → sheet < length d.sheets → DeskProfiled d sheet
profiled d e sheet on here = rows-profiled d e sheet here (reported_of d sheet) (λ profile p. report-rows d sheet profile e on p)

lent_is : (t n : List ℕ) → is_desk t n ≡ true → (sheet profile : ℕ) → report_lent t n sheet profile ≡ reported_of (desk_of t n) sheet profile
unfolding report_lent
lent_is t n e sheet profile = rw e

-- the reports of every sheet of a sound desk in lent memory
pub lent-profiled : (t n : List ℕ) → sound_memory t n ≡ true → (sheet : ℕ) → sheet < sheet_count → LentProfiled t n sheet
unfolding sound_memory
lent-profiled t n e sheet on =
    let b = and_both (is_desk t n) (sound_desk (desk_of t n)) e in
    rows-profiled (desk_of t n) b.1 sheet (omega (arith, on, sheets-long t n)) (report_lent t n sheet)
    (λ profile p. ap (λ (r : Report). r.rows) (lent_is t n b.0 sheet profile) ∙ report-rows (desk_of t n) sheet profile b.1 on p)
