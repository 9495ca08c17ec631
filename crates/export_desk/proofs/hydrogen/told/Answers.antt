-- `export_desk::hydrogen::told` meets its contract: the answer's number and its count.
-- Assumes nothing.
use mathlib.Core.Path.{ap₂}
use Prim.Native.Nat.{ℕ}
use Rattle.desk_hydrogen.specs.Hydrogens.{Proposal}
use Rattle.export_desk.proofs.hydrogen.told.Goals as goal

proposal : ℕ → ℕ → Proposal
proposal a n = record { answer = a; count = n }

pub returns : goal.returns
unfolding proposal
returns c = ap₂ proposal c.proposed_number-answer.ensures c.proposed_count-count.ensures
