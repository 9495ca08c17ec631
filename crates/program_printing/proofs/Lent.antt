-- The printed report of the desk in lent memory, from the pieces that are printed.
-- Assumes nothing.
use mathlib.Core.Path.{◌≡◌, refl, ap, ◌∙◌}
use mathlib.Core.Bool.{true, false}
use mathlib.Core.List.{List, [], ◌∷◌, ◌++◌}
use Prim.Native.Nat.{ℕ, ◌<◌}
use Rattle.text.specs.Quote.{bytes}
use Rattle.text_copies.specs.Each.{lines_from}
use Rattle.desk_state.specs.Desks.{sheet_count, sheet_at}
use Rattle.desk_state.specs.declared.sheet.Item.{Item}
use Rattle.desk_state.specs.declared.sheet.Sheet.{Sheet}
use Rattle.desk_memory.specs.Memory.{is_desk, sheet_from, texts_of, numbers_of, desk_of}
use Rattle.desk_soundness.proofs.Memories.{sheet-lent}
use Rattle.rows.specs.Rows.{row_count}
use Rattle.rows.specs.declared.Row.{Row}
use Rattle.std.specs.Prelude.{Result, Ok, Err}
use Rattle.std.specs.Result.{result_unwrap_or}
use Rattle.rows.specs.Rows.{no_rows}
use Rattle.rows.specs.declared.Rows.{Rows}
use Rattle.desk_answers.specs.declared.QuestionRefusal.{QuestionRefusal}
use Rattle.desk_questions.specs.Report.{Report, report_in, reported_of, report_lent}
use Rattle.program_printing.specs.Print.{line, two_digits, row_line, printed_item, printed_of, printed_lent}

-- a report of these rows and items
whole : List Row → List Item → List ℕ
whole rows items = line (bytes "REPORT " ∷ two_digits row_count ∷ []) ++ (lines_from row_line 1 rows ++ lines_from printed_item 1 items)

rows-in : (q : Result Rows QuestionRefusal) → result_unwrap_or q no_rows ≡ (report_in q).rows
rows-in (Ok rows) = refl
rows-in (Err refusal) = refl

module _ (t n : List ℕ) (sheet : ℕ) where
  pub printed-none : is_desk t n ≡ false → printed_lent t n sheet ≡ []
  unfolding printed_lent
  printed-none d = simp d

  -- the rows of the report, none with a refusal, and the items of the sheet's block as it is lent
  pub printed-desk : sheet < sheet_count → is_desk t n ≡ true → (q : Result Rows QuestionRefusal) → report_in q ≡ report_lent t n sheet 0 → {rows : Rows} → rows ≡ result_unwrap_or q no_rows
      → {a b : List ℕ} → a ≡ texts_of t sheet → b ≡ numbers_of n sheet
      → line (bytes "REPORT " ∷ two_digits row_count ∷ []) ++ (lines_from row_line 1 rows.rows ++ lines_from printed_item 1 (sheet_from a b).items) ≡ printed_lent t n sheet
  unfolding whole printed_lent printed_of report_lent
  printed-desk h d q e {rows} o {a} {b} x y =
      let r : report_in q ≡ reported_of (desk_of t n) sheet 0 = e ∙ simp d in
      let told : rows ≡ (reported_of (desk_of t n) sheet 0).rows = o ∙ rows-in q ∙ ap (λ (z : Report). z.rows) r in
      ap (λ (s : Sheet). whole rows.rows s.items) (sheet-lent t n sheet h x y) ∙ ap (λ (z : Rows). whole z.rows (sheet_at (desk_of t n) sheet).items) told ∙ simp d
