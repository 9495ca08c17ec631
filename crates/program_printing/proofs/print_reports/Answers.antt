-- `program_printing::print_reports` meets its contract: what is written on the two pages is the printed text.
-- Assumes nothing.
use native.Mathlib.Omega.{arith}
use mathlib.Core.Path.{ap, ◌∙◌}
use mathlib.Core.List.{List, ◌++◌}
use Prim.Native.Nat.{ℕ}
use lib.ListN.{length-append}
use Rattle.text_copies.specs.Copy.{copied}
use Rattle.program_printing.specs.Page.{page_text}
use Rattle.program_printing.specs.Print.{printed_lent, printed_in}
use Rattle.program_printing.proofs.print_reports.Goals as goal

pub copy_out-requires : goal.copy_out-requires
copy_out-requires c = (c.report_page-first.ensures.2, c.report_page-second.ensures.2)

pub returns : goal.returns
returns c =
    let a = c.args in
    let out = a.out.now in
    let first = c.report_page-first.ensures in
    let second = c.report_page-second.ensures in
    let text = ap (λ (l : List ℕ). l ++ page_text c.report_page-second.result) first.0 ∙ ap (λ (l : List ℕ). printed_lent a.texts.now a.numbers.now 0 ++ l) second.0 in
    let size = length-append (printed_lent a.texts.now a.numbers.now 0) (printed_lent a.texts.now a.numbers.now 1) in
    (c.copy_out.ensures.0 ∙ ap (printed_in out) text, c.copy_out.ensures.1 ∙ ap (copied out 0) text, omega (arith, size, first.1, first.2, second.1, second.2))
