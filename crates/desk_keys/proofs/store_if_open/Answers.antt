-- `desk_keys::store_if_open` meets its contract: another bench owns the item or not.
-- Assumes nothing.
use native.Mathlib.Omega.{arith}
use mathlib.Core.Path.{◌≡◌, sym, ◌∙◌}
use Rattle.desk_memory.specs.Memory.{desk_of}
use Rattle.desk_entries.specs.Entry.{open_to, own_item}
use Rattle.desk_entries.proofs.Camps.{open_lent}
use Rattle.desk_keys.specs.Key.{stored_if_open}
use Rattle.desk_keys.proofs.store_if_open.Goals as goal
use Rattle.desk_keys.proofs.store_if_open.Goals.{After-is_open}

-- what was asked of the numbers is so of the desk's item
asked : (c : After-is_open) → (let a = c.args in c.is_open.result ≡ open_to (own_item (desk_of a.texts.now a.numbers.now) a.bench a.item) a.bench)
asked c =
    let a = c.args in
    c.is_open.ensures _ ∙ sym (open_lent a.texts.now a.numbers.now a.bench c.requires.3.bench_in a.item (omega (arith, c.requires.0, c.requires.1)))

pub returns-then-not-is_open : goal.returns-then-not-is_open
unfolding stored_if_open
returns-then-not-is_open c = simp (sym (asked (goal.at.returns-then-not-is_open c).After-is_open) ∙ c.if-not-is_open.true)

pub returns : goal.returns
unfolding stored_if_open
returns c = c.store.ensures ∙ simp (sym (asked (goal.at.returns c).After-is_open) ∙ c.if-not-is_open.false)
