-- `desk_keys::enter_desk` meets its contract: the entry, and the line emptied.
-- Assumes nothing.
use native.Mathlib.Omega.{arith}
use mathlib.Core.Path.{◌∙◌, ap}
use Rattle.desk_state.specs.Lines.{empty_line}
use Rattle.desk_state.specs.Desks.{with_line}
use Rattle.desk_state.specs.declared.desk.Desk.{Desk}
use Rattle.desk_keys.proofs.enter_desk.Goals as goal

pub clear_line-requires : goal.clear_line-requires
clear_line-requires c =
    let z = c.requires.1 in
    (c.requires.0, record { texts = omega (arith, z.texts); numbers = omega (arith, z.numbers) })

pub returns : goal.returns
returns c =
    let e = c.put_entry.ensures.taken c.requires.2 in
    (c.clear_line.ensures.0 ∙ ap (λ (d : Desk). with_line d c.args.bench empty_line) e.0, c.clear_line.ensures.1 ∙ e.1)
