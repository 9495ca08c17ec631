-- `desk_entries::put_value` meets its contract: the text, and zeros after it.
-- Assumes nothing.
use mathlib.Core.Path.{◌∙◌, ap}
use mathlib.Core.List.{List}
use Prim.Native.Nat.{ℕ, ◌+◌, ◌*◌, ◌-◌}
use lib.ListN.{length, replicate}
use Rattle.text_copies.specs.Copy.{copied}
use Rattle.line_items.specs.Typed.{line_most}
use Rattle.desk_entries.proofs.Stores.{padded-in}
use Rattle.desk_entries.proofs.put_value.Goals as goal

pub returns : goal.returns
returns c =
    let a = c.args in
    let v = a.value.now in
    let to = a.k * line_most in
    c.clear.ensures ∙ ap (λ (x : List ℕ). copied x (to + length v) (replicate (line_most - length v) 0)) c.copy_in.ensures
    ∙ padded-in a.texts.now to v c.requires.0 c.requires.1
