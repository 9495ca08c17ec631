-- `file_cif::file::put_item` meets its contract: nothing for an empty item, the line of a filled one.
-- Assumes nothing.
use native.Mathlib.Omega.{arith}
use native.Mathlib.Nat.{add-zero}
use mathlib.Core.Path.{◌≡◌, sym, ap, ◌∙◌}
use mathlib.Core.List.{List}
use Prim.Native.Nat.{ℕ, ◌+◌}
use lib.ListN.{length}
use Rattle.text_copies.specs.Copy.{copied}
use Rattle.text_copies.proofs.Copies.{copied_none}
use Rattle.desk_memory.specs.Memory.{item_in}
use Rattle.file_cif.specs.File.{ended_line, item_text, item_line}
use Rattle.file_cif.proofs.Files.{empty-line, filled-line}
use Rattle.file_cif.proofs.file.put_item.Goals as goal
use Rattle.file_cif.proofs.file.put_item.Goals.{After-value_at}

pub returns-then-number_at-eq0 : goal.returns-then-number_at-eq0
returns-then-number_at-eq0 c =
    let a = c.args in
    let e = empty-line (a.k + 1) (item_in a.texts.now a.numbers.now a.k) (sym c.number_at.ensures ∙ c.if-number_at-eq0.true) in
    (sym (ap (copied a.out.now a.at) e ∙ copied_none a.out.now a.at), sym (ap (λ (l : List ℕ). a.at + length l) e ∙ add-zero a.at))

-- the line of a filled item, with the value that was found
line : (c : After-value_at) → let a = c.args in
    ended_line (item_text (a.k + 1) c.value_at.result.now) ≡ item_line (a.k + 1) (item_in a.texts.now a.numbers.now a.k)
line c =
    let a = c.args in
    ap (λ (t : List ℕ). ended_line (item_text (a.k + 1) t)) c.value_at.ensures
    ∙ sym (filled-line (a.k + 1) (item_in a.texts.now a.numbers.now a.k) (λ z. c.if-number_at-eq0.false (c.number_at.ensures ∙ z)))

pub put_filled-requires : goal.put_filled-requires
put_filled-requires c = let e = ap (λ (l : List ℕ). length l) (line (goal.at.put_filled-requires c).After-value_at) in (omega (arith, e), omega arith)

pub returns : goal.returns
returns c =
    let a = c.args in
    (c.put_filled.ensures.0 ∙ ap (copied a.out.now a.at) (line (goal.at.returns c).After-value_at), c.put_filled.ensures.1 ∙ ap (λ (l : List ℕ). a.at + length l) (line (goal.at.returns c).After-value_at))
