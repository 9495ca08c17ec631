-- `reader_memory::hold` meets its contract.
-- Assumes nothing.
use mathlib.Core.Path.{ap, ◌∙◌}
use mathlib.Core.List.{List}
use Prim.Native.Nat.{ℕ}
use lib.ListN.{length}
use Rattle.reader_memory.specs.Memory.{only_first}
use Rattle.reader_memory.proofs.Kepts.{held_kept}
use Rattle.reader_memory.proofs.hold.Goals as goal

pub returns : goal.returns
returns c = let a = c.args in c.keep_first.ensures ∙ ap (λ (k : List ℕ). only_first k (length a.bs.now)) c.copy_in.ensures ∙ held_kept a.kept.now a.bs.now
