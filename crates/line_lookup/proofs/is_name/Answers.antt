-- `line_lookup::is_name` meets its contract: of a name's bytes the last 16, the 16 after the first and the first are all.
-- Assumes nothing.
use native.Mathlib.Omega.{arith}
use mathlib.Core.Path.{sym, ap, ◌∙◌}
use Prim.Native.Nat.{◌-◌}
use lib.ListN.{length, length-take}
use Rattle.text_equality.specs.Same.{lower, same_folded}
use Rattle.text_equality.proofs.Sames.{other_length}
use Rattle.line_lookup.proofs.Parts.{lent_parts, name_fits}
use Rattle.line_lookup.proofs.is_name.Goals as goal

pub returns-then-s-name : goal.returns-then-s-name
returns-then-s-name c =
    let s = c.args.s.now in
    sym (ap (same_folded s) (sym c.name_of-name.ensures) ∙ other_length lower s c.name_of-name.result.now c.if-s-name.true)

pub overflow_sub-at : goal.overflow_sub-at
overflow_sub-at c = let fits = name_fits c.name_of-name.ensures c.requires in omega arith

pub slice_bounds-same_folded-end-then-same_folded : goal.slice_bounds-same_folded-end-then-same_folded
slice_bounds-same_folded-end-then-same_folded c = let fits = name_fits c.name_of-name.ensures c.requires in simp length-take (omega arith)

pub slice_bounds-same_folded-end-then-same_folded-2 : goal.slice_bounds-same_folded-end-then-same_folded-2
slice_bounds-same_folded-end-then-same_folded-2 c = let fits = name_fits c.name_of-name.ensures c.requires in simp length-take (omega arith)

pub slice_bounds-same_folded-end-3 : goal.slice_bounds-same_folded-end-3
slice_bounds-same_folded-end-3 c = let fits = name_fits c.name_of-name.ensures c.requires in omega arith

pub returns-then-not-same_folded : goal.returns-then-not-same_folded
returns-then-not-same_folded c =
    let s = c.args.s.now in
    let fits = name_fits c.name_of-name.ensures c.requires in
    let parts = lent_parts lower (length s - 16) 16 (omega arith) s c.name_of-name.result.now in
    let last = sym c.same_folded.ensures ∙ c.if-not-same_folded.true in
    sym (ap (same_folded s) (sym c.name_of-name.ensures) ∙ parts ∙ simp last)

pub returns-then-same_folded : goal.returns-then-same_folded
returns-then-same_folded c =
    let s = c.args.s.now in
    let fits = name_fits c.name_of-name.ensures c.requires in
    let parts = lent_parts lower (length s - 16) 16 (omega arith) s c.name_of-name.result.now in
    let last = sym c.same_folded.ensures ∙ c.if-not-same_folded.false in
    let more = sym c.same_folded-2.ensures ∙ c.if-same_folded.true in
    c.same_folded-then-same_folded.ensures ∙ sym (ap (same_folded s) (sym c.name_of-name.ensures) ∙ parts ∙ simp (last, more))

pub returns-else-same_folded : goal.returns-else-same_folded
returns-else-same_folded c =
    let s = c.args.s.now in
    let fits = name_fits c.name_of-name.ensures c.requires in
    let parts = lent_parts lower (length s - 16) 16 (omega arith) s c.name_of-name.result.now in
    let last = sym c.same_folded.ensures ∙ c.if-not-same_folded.false in
    let more = sym c.same_folded-2.ensures ∙ c.if-same_folded.false in
    c.if-same_folded.false ∙ sym (ap (same_folded s) (sym c.name_of-name.ensures) ∙ parts ∙ simp (last, more))
