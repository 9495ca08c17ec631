use Rattle.std.specs.Prelude.{Some}
use native.Mathlib.Omega.{arith}
use mathlib.Core.Path.{◌≡◌, refl, sym, ap, ◌∙◌}
use mathlib.Core.Bool.{cond}
use Prim.Native.Nat.{◌+◌}
use Rattle.line_items.specs.Items.{item_count}
use Rattle.line_items.proofs.Names.{search_from, search-turn, search-end}
use Rattle.line_lookup.proofs.item_named.Goals as goal
use Rattle.line_lookup.proofs.item_named.Goals.{After-is_name}

pub loop-item-init : goal.loop-item-init
loop-item-init c = (omega arith, omega arith, refl)

-- what the test of an item makes of the search
turn : (c : After-is_name) → (let s = c.args.s.now in
    search_from s c.loop-item.item ≡ cond c.is_name.result (Some c.loop-item.item) (search_from s (c.loop-item.item + 1)))
turn c =
    let s = c.args.s.now in
    search-turn s c.loop-item.item (omega arith) (omega arith) ∙ rw c.is_name.ensures refl

pub returns-then-is_name : goal.returns-then-is_name
returns-then-is_name c = sym (c.loop-item.invariant.2 ∙ (turn (goal.at.returns-then-is_name c).After-is_name) ∙ simp c.if-is_name.true)

pub loop-item-preserved : goal.loop-item-preserved
loop-item-preserved c = (omega arith, omega arith, c.loop-item.invariant.2 ∙ (turn (goal.at.loop-item-preserved c).After-is_name) ∙ simp c.if-is_name.false)

pub returns : goal.returns
returns c =
    let s = c.args.s.now in
    let last : c.loop-item.item ≡ item_count + 1 = omega arith in
    sym (c.loop-item.invariant.2 ∙ ap (search_from s) last ∙ search-end s)
