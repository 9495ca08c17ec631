-- `file_cif::length::line_length` meets its contract: name, space, value and end byte.
-- Assumes nothing.
use native.Mathlib.Omega.{arith}
use mathlib.Core.Path.{sym, ap, ◌∙◌}
use mathlib.Core.List.{List}
use Prim.Native.Nat.{ℕ, ◌+◌, ◌≤◌}
use lib.ListN.{length}
use Rattle.line_items.specs.Typed.{line_most}
use Rattle.line_items.proofs.NameTable.{name-short}
use Rattle.desk_state.specs.Sheets.{value_in}
use Rattle.desk_memory.specs.Memory.{item_in}
use Rattle.desk_memory.proofs.Gets.{value-short}
use Rattle.file_cif.proofs.Files.{empty-line, filled-line, ended-length}
use Rattle.file_cif.proofs.length.line_length.Goals as goal
use Rattle.file_cif.proofs.length.line_length.Goals.{After-value_at-n}

pub returns-then-number_at-eq0 : goal.returns-then-number_at-eq0
returns-then-number_at-eq0 c =
    let a = c.args in
    let e = ap (λ (l : List ℕ). length l) (empty-line (a.k + 1) (item_in a.texts.now a.numbers.now a.k) (sym c.number_at.ensures ∙ c.if-number_at-eq0.true)) in
    (sym e, omega arith)

pub overflow_add-result : goal.overflow_add-result
overflow_add-result c = let a = c.args in omega (arith, name-short (a.k + 1) (omega arith), c.name_length.ensures)

-- how long the value is
value-length : (c : After-value_at-n) → length c.value_at-n.result.now ≤ line_most
value-length c = let a = c.args in omega (arith, ap (λ (l : List ℕ). length l) c.value_at-n.ensures, value-short a.texts.now a.numbers.now a.k)

pub overflow_add-result-2 : goal.overflow_add-result-2
overflow_add-result-2 c =
    let a = c.args in
    omega (arith, name-short (a.k + 1) (omega arith), c.name_length.ensures, (value-length (goal.at.overflow_add-result-2 c).After-value_at-n))

pub overflow_add-result-3 : goal.overflow_add-result-3
overflow_add-result-3 c =
    let a = c.args in
    omega (arith, name-short (a.k + 1) (omega arith), c.name_length.ensures, (value-length (goal.at.overflow_add-result-3 c).After-value_at-n))

pub returns : goal.returns
returns c =
    let a = c.args in
    let i = item_in a.texts.now a.numbers.now a.k in
    let e = ap (λ (l : List ℕ). length l) (filled-line (a.k + 1) i (λ z. c.if-number_at-eq0.false (c.number_at.ensures ∙ z))) ∙ ended-length (a.k + 1) (value_in i) in
    let l = ap (λ (t : List ℕ). length t) c.value_at-n.ensures in
    (omega (arith, e, l, c.name_length.ensures), omega (arith, name-short (a.k + 1) (omega arith), c.name_length.ensures, (value-length (goal.at.returns c).After-value_at-n)))
