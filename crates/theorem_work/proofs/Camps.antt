-- A camp's part of a sequence is what its own calls do alone.
-- Assumes nothing.
use mathlib.Core.Path.{◌≡◌, refl, ap}
use mathlib.Core.Bool.{Bool, true, false}
use mathlib.Core.List.{List, [], ◌∷◌}
use Prim.Native.Nat.{ℕ}
use Rattle.text.proofs.Bools.{and_both}
use Rattle.desk_state.specs.declared.sheet.Sheet.{Sheet}
use Rattle.theorem_work.specs.Calls.{Call, Reply, answered}
use Rattle.theorem_work.specs.Work.{Work, work_step}
use Rattle.theorem_work.specs.Camps.{of_camp, own_calls, answers_of, restrict, fitted, none_full, AsAlone}
use Rattle.theorem_work.proofs.Alone.{alone-same}
use Rattle.theorem_work.proofs.CampLaws.{camp-apart}

-- what no call gets, no call of the camp gets
pub none-own : {Rows : Type 0} (camp : ℕ) (ps : List (Call × Reply Rows)) → none_full ps ≡ true → none_full (answers_of camp ps) ≡ true
none-own camp [] h = refl
none-own camp (p ∷ ps) h = go (of_camp camp p.0) refl (none-own camp ps (and_both (fitted p.1) (none_full ps) h).1)
  where
    go : (t : Bool) → of_camp camp p.0 ≡ t → none_full (answers_of camp ps) ≡ true → none_full (answers_of camp (p ∷ ps)) ≡ true
    go true t r = rw (t, (and_both (fitted p.1) (none_full ps) h).0) r
    go false t r = rw t r

-- from any work, in any log, whatever the other calls are, if no Enter of the camp got 8
pub as-alone : {Rows : Type 0} (rows_of : ℕ → Sheet → Rows) (no_rows : Rows) (len camp : ℕ) (w : Work) (cs : List Call)
    → none_full (answers_of camp (answered (work_step rows_of no_rows len) w cs)) ≡ true → AsAlone rows_of no_rows len camp w cs
as-alone rows_of no_rows len camp w cs h =
    let r = alone-same _ _ (restrict camp) camp (camp-apart rows_of no_rows len camp) cs w h in
    record { answers = r.0; end = r.1 }
