-- `hydrogen_writer::put::put_word` meets its contract: past the end nothing fits, and what fits is copied.
-- Assumes nothing.
use native.Mathlib.Omega.{arith}
use mathlib.Core.List.{[], ◌∷◌, ◌++◌}
use lib.ListN.{length-append}
use Rattle.hydrogen_writer.proofs.Shown.{put-past, put-long, put-term}
use Rattle.hydrogen_writer.proofs.put.put_word.Goals as goal

pub returns-then-at-gt-TYPED_MOST : goal.returns-then-at-gt-TYPED_MOST
returns-then-at-gt-TYPED_MOST c =
    let a = c.args in
    put-past a.out.now a.at (a.word.now ++ (32 ∷ [])) (omega (arith, c.requires))

pub returns-then-at-word : goal.returns-then-at-word
returns-then-at-word c =
    let a = c.args in
    put-long a.out.now a.at (a.word.now ++ (32 ∷ [])) 179 (omega (arith, c.requires)) (omega (arith, c.requires, length-append a.word.now (32 ∷ [])))

pub returns : goal.returns
returns c =
    let a = c.args in
    put-term a.out.now a.at a.word.now _ _ (omega (arith, c.requires)) c.copy_in.ensures c.copy_in-2.ensures
