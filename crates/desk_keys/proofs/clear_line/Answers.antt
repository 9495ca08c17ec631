-- `desk_keys::clear_line` meets its contract: the slot and its length are zero.
-- Assumes nothing.
use native.Mathlib.Omega.{arith}
use mathlib.Core.Path.{◌∙◌, ap}
use mathlib.Core.List.{List}
use Prim.Native.Nat.{ℕ}
use lib.ListN.{set}
use lib.Seq.{get_or-set_other}
use Rattle.desk_memory.specs.Memory.{used_at, desk_of}
use Rattle.desk_keys.proofs.Stores.{cleared-in}
use Rattle.desk_keys.proofs.clear_line.Goals as goal

pub returns : goal.returns
returns c =
    let a = c.args in (
      ap (λ (t : List ℕ). desk_of t (set a.numbers.now a.bench 0)) c.clear.ensures
          ∙ cleared-in a.texts.now a.numbers.now c.requires.1 a.bench c.requires.0,
      get_or-set_other a.numbers.now a.bench used_at 0 0 (λ q. omega arith),
    )
