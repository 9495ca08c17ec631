-- `desk_entries::put_entry` meets its contract: the memory can take the entry or not.
-- Assumes nothing.
use native.Mathlib.Omega.{arith}
use mathlib.Core.Path.{◌≡◌, refl, sym, ap, ◌∙◌}
use mathlib.Core.Bool.{true, false≢true}
use lib.ListN.{length-set}
use lib.Seq.{get_or-set_same}
use Rattle.desk_state.specs.declared.desk.Desk.{Desk}
use Rattle.desk_memory.specs.Memory.{used_at}
use Rattle.desk_entries.specs.Entry.{with_entry_on}
use Rattle.desk_entries.specs.Lent.{takes}
use Rattle.desk_entries.proofs.Stores.{Taken, taken_is, used-desk, used-takes}
use Rattle.desk_entries.proofs.put_entry.Goals as goal
use Rattle.desk_entries.proofs.put_entry.Goals.{Else-not-can_take}

-- the memory can take the entry
can : (c : Else-not-can_take) → (let a = c.args in takes a.texts.now a.numbers.now a.bench a.item a.value.now ≡ true)
can c = sym (c.can_take.ensures _ refl) ∙ c.if-not-can_take.false

taken : (c : Else-not-can_take) → (let a = c.args in Taken a.texts.now a.numbers.now a.bench a.item a.value.now)
taken c =
    let a = c.args in
    taken_is a.texts.now a.numbers.now a.bench a.item a.value.now (can c)

pub returns-then-not-can_take : goal.returns-then-not-can_take
returns-then-not-can_take c =
    let no = sym (c.can_take.ensures _ refl) ∙ c.if-not-can_take.true in
    record { taken = λ h. absurd (false≢true (sym no ∙ h)); not_taken = λ h. (refl, refl); same_length = (refl, refl) }

pub put_item-requires : goal.put_item-requires
put_item-requires c =
    let a = c.args in
    used-takes a.texts.now a.numbers.now a.used a.bench a.item a.value.now ∙ (can (goal.at.put_item-requires c).Else-not-can_take)

pub shape_of-numbers : goal.shape_of-numbers
shape_of-numbers c =
    let a = c.args in
    omega (arith, length-set a.numbers.now used_at a.used)

pub returns : goal.returns
returns c =
    let a = c.args in
    let n = a.numbers.now in
    record {
      taken = λ h. (
        c.put_item.ensures.0 ∙ ap (λ (d : Desk). with_entry_on d a.bench a.item a.value.now) (used-desk a.texts.now n a.used),
        c.put_item.ensures.1 ∙ get_or-set_same n used_at a.used 0 (omega (arith, (taken (goal.at.returns c).Else-not-can_take).sized.numbers)),
      );
      not_taken = λ h. absurd (false≢true (sym h ∙ (can (goal.at.returns c).Else-not-can_take)));
      same_length = (omega arith, omega (arith, length-set n used_at a.used));
    }

pub bounds-numbers-158 : goal.bounds-numbers-158
bounds-numbers-158 c = omega (arith, (taken (goal.at.bounds-numbers-158 c).Else-not-can_take).sized.numbers)
