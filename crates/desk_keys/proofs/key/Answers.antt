-- `desk_keys::key` meets its contract: the first refusal that applies, else the step.
-- Assumes nothing.
use native.Mathlib.Omega.{arith}
use mathlib.Core.Path.{◌≡◌, sym, ◌∙◌}
use mathlib.Core.Bool.{true}
use lib.ListN.{length}
use Rattle.desk_soundness.specs.SoundMemory.{sound_for_keys}
use Rattle.desk_keys.proofs.Calls.{no-bench, unsound, lent-ready, stepped}
use Rattle.desk_keys.proofs.key.Goals as goal
use Rattle.desk_keys.proofs.key.Goals.{Else-not-is_sound_for_keys}

-- the memory holds a desk that is sound for key calls
sound : (c : Else-not-is_sound_for_keys) → (let a = c.args in sound_for_keys a.texts.now a.numbers.now (length a.log.now) ≡ true)
sound c = sym c.is_sound_for_keys.ensures ∙ c.if-not-is_sound_for_keys.false

pub returns-then-bench : goal.returns-then-bench
returns-then-bench c =
    let a = c.args in
    no-bench a.texts.now a.numbers.now a.log.now a.bench a.byte c.if-bench.true

pub returns-then-not-is_sound_for_keys : goal.returns-then-not-is_sound_for_keys
returns-then-not-is_sound_for_keys c =
    let a = c.args in
    unsound a.texts.now a.numbers.now a.log.now a.bench a.byte c.if-bench.false
    (sym c.is_sound_for_keys.ensures ∙ c.if-not-is_sound_for_keys.true)

pub step-requires : goal.step-requires
step-requires c =
    let a = c.args in
    lent-ready a.texts.now a.numbers.now a.log.now a.bench a.byte c.if-bench.false (sound (goal.at.step-requires c).Else-not-is_sound_for_keys)

pub returns : goal.returns
returns c =
    let a = c.args in
    stepped a.texts.now a.numbers.now a.log.now a.bench a.byte c.if-bench.false (sound (goal.at.returns c).Else-not-is_sound_for_keys) (omega arith) (omega arith) c.step.ensures
