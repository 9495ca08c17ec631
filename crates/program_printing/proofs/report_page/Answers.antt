-- `program_printing::report_page` meets its contract: the head, the rows and the items one after the other.
-- Assumes nothing.
use native.Mathlib.Omega.{arith}
use mathlib.Core.Path.{◌≡◌, sym, ap, ◌∙◌}
use mathlib.Core.Bool.{true}
use mathlib.Core.List.{List}
use Prim.Native.Nat.{ℕ}
use lib.ListN.{length}
use Rattle.std.specs.Result.{result_unwrap_or}
use Rattle.desk_memory.specs.Memory.{is_desk}
use Rattle.program_printing.proofs.Pages.{adds-as, adds_then, adds-first}
use Rattle.program_printing.proofs.Lent.{printed-none, printed-desk}
use Rattle.program_printing.proofs.report_page.Goals as goal
use Rattle.program_printing.proofs.report_page.Goals.{Else-not-is_desk}

-- the memory has a desk's lengths
desk-here : (c : Else-not-is_desk) → (let a = c.args in is_desk a.texts.now a.numbers.now ≡ true)
desk-here c = sym c.is_desk.ensures ∙ c.if-not-is_desk.false

pub returns-then-not-is_desk : goal.returns-then-not-is_desk
returns-then-not-is_desk c =
    let e = c.empty-page.ensures in
    let a = c.args in
    let none = sym (printed-none a.texts.now a.numbers.now a.sheet (sym c.is_desk.ensures ∙ c.if-not-is_desk.true)) in
    (e.0 ∙ none, e.1 ∙ ap (λ (l : List ℕ). length l) none, omega (arith, e.1))

pub put_rows-requires : goal.put_rows-requires
put_rows-requires c = omega (arith, c.put.ensures.size, c.empty-page.ensures.1)

pub put_items-requires : goal.put_items-requires
put_items-requires c = omega (arith, c.put_rows.ensures.1, c.put.ensures.size, c.empty-page.ensures.1)

pub returns : goal.returns
returns c =
    let a = c.args in
    let all = adds_then c.put.ensures (adds_then c.put_rows.ensures.0 c.put_items.ensures.0) in
    let text = printed-desk a.texts.now a.numbers.now a.sheet c.requires (desk-here (goal.at.returns c).Else-not-is_desk) _ c.report.ensures (c.unwrap_or-rows.ensures ∙ ap (result_unwrap_or c.report.result) c.no_rows.ensures) c.sheet_texts.ensures c.sheet_numbers.ensures in
    let first = adds-first c.empty-page.ensures.0 c.empty-page.ensures.1 (adds-as text all) in
    (first.0, first.1, omega (arith, c.put_items.ensures.1, c.put_rows.ensures.1, c.put.ensures.size, c.empty-page.ensures.1))
