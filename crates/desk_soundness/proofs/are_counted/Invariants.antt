-- `desk_soundness::are_counted` meets its contract. The loop's invariant: what is left of the records has room for the counts that are left. Assumes nothing.
use mathlib.Core.Path.{◌≡◌}
use mathlib.Core.List.{List}
use Prim.Native.Nat.{ℕ, ◌*◌}
use lib.Dec.{leb}
use Rattle.desk_memory.specs.Memory.{desk_of}
use Rattle.desk_soundness.specs.SoundLog.{entry_count}
use Rattle.desk_soundness.proofs.Counts.{counts_from}
use Rattle.desk_soundness.proofs.are_counted.Given as goal

abbrev pub invariant-loop-s : goal.invariant-loop-s
invariant-loop-s l = (t : List ℕ) → leb (6 * entry_count (desk_of t l.numbers)) l.used ≡ leb (counts_from t l.numbers l.s) l.left
