-- A row comes, and all its products are there, or one is not and the count is known.
-- Assumes nothing.
use Rattle.std.proofs.Common.{◌≡◌, ap, sym, ◌∙◌, arith, ℕ, ◌+◌, ◌*◌, [], ◌∷◌, ◌++◌, length, length-append, add-one}
use native.Mathlib.Nat.{suc-mul}
use Rattle.std.specs.Slice.Iter.{chunks_exact_rest}
use Rattle.text.specs.Run.{run_of}
use Rattle.symmetry_operators.specs.Check.{row_from}
use Rattle.symmetry_operators.specs.Residues.{closes_code, residues}
use Rattle.symmetry_judged.proofs.Read.{residues_read}
use Rattle.symmetry_judged.proofs.Looked.{looked-fails, looked-more}
use Rattle.symmetry_judged.proofs.pair_run.Goals as goal

passed-more : (k m n before : ℕ) → m ≡ k + 1 → before ≡ k * n → before + n ≡ m * n
passed-more k m n before e f = ap (λ (b : ℕ). b + n) f ∙ sym (ap (λ (x : ℕ). x * n) (e ∙ add-one k) ∙ suc-mul k n)

pub returns-then-found-n : goal.returns-then-found-n
returns-then-found-n c =
    let codes = c.args.codes.now in
    let found : c.row_run-found.result ≡ run_of (closes_code codes (residues (row_from c.in-Some.row.now))) codes
    = c.row_run-found.ensures.run ∙ ap (λ w. run_of (closes_code codes w) codes) (residues_read c.in-Some.row.now c.residues_of.ensures) in
    sym (c.loop-row.invariant.rest
    ∙ ap (λ (n : ℕ). c.loop-row.before + n)
    (looked-fails codes c.loop-row.row-iterator c.next.new.self c.in-Some.row c.loop-row.invariant.size c.in-Some.ensures.steps found c.if-found-n.true))

pub loop-row-preserved : goal.loop-row-preserved
loop-row-preserved c =
    let codes = c.args.codes.now in
    let found : c.row_run-found.result ≡ run_of (closes_code codes (residues (row_from c.in-Some.row.now))) codes
    = c.row_run-found.ensures.run ∙ ap (λ w. run_of (closes_code codes w) codes) (residues_read c.in-Some.row.now c.residues_of.ensures) in
    let all : c.row_run-found.result ≡ length codes = omega arith in
    let steps = c.in-Some.ensures.steps in
    let more = length-append c.loop-row.yielded (c.in-Some.row ∷ []) in
    let count : length (c.loop-row.yielded ++ (c.in-Some.row ∷ [])) ≡ length c.loop-row.yielded + 1 = omega arith in
    let long : length (chunks_exact_rest c.loop-row.row-iterator) ≡ length c.in-Some.row.now + length (chunks_exact_rest c.next.new.self)
    = ap length steps.1.0 ∙ length-append c.in-Some.row.now (chunks_exact_rest c.next.new.self) in
    let twelve : length c.in-Some.row.now ≡ 12 = steps.1.1 ∙ c.loop-row.invariant.size in
    record {
      size = steps.0 ∙ c.loop-row.invariant.size;
      room = omega (arith, c.loop-row.invariant.room);
      passed = passed-more (length c.loop-row.yielded) _ (length codes) c.loop-row.before count c.loop-row.invariant.passed;
      rest = c.loop-row.invariant.rest
          ∙ ap (λ (n : ℕ). c.loop-row.before + n)
          (looked-more codes c.loop-row.row-iterator c.next.new.self c.in-Some.row c.loop-row.invariant.size steps found all)
          ∙ omega arith;
    }
