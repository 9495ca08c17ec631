-- `program_printing::copy_out` meets its contract: the test of the length is the definition's, and the second page stands behind the first.
-- Assumes nothing.
use native.Mathlib.Omega.{arith}
use mathlib.Core.Path.{◌≡◌, sym, ap, ◌∙◌}
use mathlib.Core.List.{List, ◌++◌}
use Prim.Native.Nat.{ℕ, ◌+◌}
use native.Mathlib.Nat.{zero-add}
use borrow.Author.Tests.{le-leb, lt-leb}
use lib.ListN.{length, length-append}
use lib.Seq.{length-take-le}
use Rattle.text_copies.specs.Copy.{copied}
use Rattle.text_copies.proofs.Copies.{copied-then}
use Rattle.program_printing.specs.Page.{page_most, page_text}
use Rattle.program_printing.specs.Print.{printed_in}
use Rattle.std.specs.Prelude.{Some}
use borrow.Author.Rules.{rules}
use Rattle.program_printing.proofs.copy_out.Goals as goal
use Rattle.program_printing.proofs.copy_out.Goals.{Start}

long : (c : Start) → (length c.args.p.now.bytes ≡ page_most) × (length c.args.q.now.bytes ≡ page_most)
long c = (search rules, search rules)

-- the lengths of what is written
size : (c : Start) → length (page_text c.args.p.now) ≡ c.args.p.now.len
size c = length-take-le c.args.p.now.len c.args.p.now.bytes (omega (arith, (long c).0, c.requires.0))

size-2 : (c : Start) → length (page_text c.args.q.now) ≡ c.args.q.now.len
size-2 c = length-take-le c.args.q.now.len c.args.q.now.bytes (omega (arith, (long c).1, c.requires.1))

both : (c : Start) → length (page_text c.args.p.now ++ page_text c.args.q.now) ≡ c.args.p.now.len + c.args.q.now.len
both c = omega (arith, length-append (page_text c.args.p.now) (page_text c.args.q.now), size c, size-2 c)

pub returns-then-out-n : goal.returns-then-out-n
unfolding printed_in copied
returns-then-out-n c =
    let no = lt-leb (length (page_text c.args.p.now ++ page_text c.args.q.now)) (length c.args.out.now) (omega (arith, (both (goal.at.returns-then-out-n c).Start))) in
    (simp no, simp (zero-add, no))

pub slice_bounds-copy_in-end : goal.slice_bounds-copy_in-end
slice_bounds-copy_in-end c = sym (size (goal.at.slice_bounds-copy_in-end c).Start)

pub slice_bounds-copy_in-end-2 : goal.slice_bounds-copy_in-end-2
slice_bounds-copy_in-end-2 c = sym (size-2 (goal.at.slice_bounds-copy_in-end-2 c).Start)

pub returns : goal.returns
unfolding printed_in
returns c =
    let out = c.args.out.now in
    let first = page_text c.args.p.now in
    let second = page_text c.args.q.now in
    let yes = le-leb (length (first ++ second)) (length out) (omega (arith, (both (goal.at.returns c).Start))) in
    let two = c.copy_in-2.ensures ∙ ap (λ (l : List ℕ). copied l c.args.p.now.len second) c.copy_in.ensures
    ∙ copied-then out 0 c.args.p.now.len first second (omega (arith, (size (goal.at.returns c).Start))) (omega (arith, (size (goal.at.returns c).Start), (size-2 (goal.at.returns c).Start))) in
    (simp yes (ap Some (sym (both (goal.at.returns c).Start))), two)
