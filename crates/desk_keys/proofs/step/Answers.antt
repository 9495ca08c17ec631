-- `desk_keys::step` meets its contract: each arm of the match is a case of `key_step`.
-- Assumes nothing.
use native.Mathlib.Omega.{arith}
use mathlib.Core.Path.{◌∙◌}
use borrow.Author.Tests.{le-leb, lt-leb, ne_eqb}
use Rattle.text.specs.Run.{between}
use Rattle.desk_keys.specs.Key.{key_step}
use Rattle.desk_keys.proofs.Cases.{line-cleared}
use Rattle.desk_keys.proofs.step.Goals as goal

pub erase_byte-requires : goal.erase_byte-requires
erase_byte-requires c = (c.requires.bench_in, c.requires.sized)

pub clear_line-requires : goal.clear_line-requires
clear_line-requires c = (c.requires.bench_in, c.requires.sized)

pub append_byte-requires : goal.append_byte-requires
append_byte-requires c = (c.requires.bench_in, c.requires.sized)

pub returns-in-8 : goal.returns-in-8
unfolding key_step between
returns-in-8 c = c.erase_byte.ensures c.args.log.now ∙ simp c.in-8.is

pub returns-in-24 : goal.returns-in-24
unfolding key_step between
returns-in-24 c = line-cleared _ _ _ _ c.args.log.now _ c.clear_line.ensures.0 c.clear_line.ensures.1 ∙ simp c.in-24.is

pub returns-in-10 : goal.returns-in-10
unfolding key_step between
returns-in-10 c = c.enter_line.ensures ∙ simp c.in-10.is

pub returns-in-32-to-126 : goal.returns-in-32-to-126
unfolding key_step between
returns-in-32-to-126 c =
    let a = c.args in
    c.append_byte.ensures a.log.now ∙ simp (le-leb 32 a.byte (omega arith), le-leb a.byte 126 (omega arith))

pub returns-in_default : goal.returns-in_default
unfolding key_step between
returns-in_default c =
    let b = c.args.byte in
    simp (lt-leb 32 b (omega arith), ne_eqb b 8 (λ e. omega arith), ne_eqb b 24 (λ e. omega arith), ne_eqb b 10 (λ e. omega arith))

pub returns-in_default-2 : goal.returns-in_default-2
unfolding key_step between
returns-in_default-2 c =
    let b = c.args.byte in
    simp (le-leb 32 b (omega arith), lt-leb b 126 (omega arith), ne_eqb b 8 (λ e. omega arith), ne_eqb b 24 (λ e. omega arith), ne_eqb b 10 (λ e. omega arith))
