-- A row comes, and its code is stored behind those before it.
-- Assumes nothing.
use Rattle.std.proofs.Common.{◌≡◌, ap, sym, ◌∙◌, arith, ℕ, ◌+◌, ◌<◌, [], ◌∷◌, ◌++◌, List, map, take, length, length-append, append_assoc, length-set, add-one}
use lib.ListN.{set}
use lib.Seq.{take-suc-set}
use Rattle.std.specs.Slice.Iter.{chunks_exact_rest}
use Rattle.symmetry_operators.specs.Check.{operator_rows}
use Rattle.symmetry_operators.specs.Residues.{code}
use Rattle.symmetry_operators.proofs.Chunks.{one-comes}
use Rattle.symmetry_judged.proofs.codes_of.Goals as goal

stored : (out : List ℕ) (k v : ℕ) (l : List ℕ) → k < length out → take k out ++ (v ∷ l) ≡ take (k + 1) (set out k v) ++ l
stored out k v l h =
    sym (append_assoc (take k out) (v ∷ []) l)
    ∙ ap (λ (w : List ℕ). w ++ l) (sym (ap (λ (i : ℕ). take i (set out k v)) (add-one k) ∙ take-suc-set out k v h))

pub loop-i-preserved : goal.loop-i-preserved
loop-i-preserved c =
    let steps = c.in-Some.ensures.steps in
    let s = c.loop-i.i-iterator.iter in
    let t = c.next.new.self.iter in
    let row = c.in-Some.row in
    let long : length (chunks_exact_rest s) ≡ length row.now + length (chunks_exact_rest t)
    = ap length steps.0.1.0 ∙ length-append row.now (chunks_exact_rest t) in
    let twelve : length row.now ≡ 12 = steps.0.1.1 ∙ c.loop-i.invariant.size in
    let at : c.in-Some.i ≡ c.loop-i.i-iterator.count = steps.1 in
    let more : c.next.new.self.count ≡ c.loop-i.i-iterator.count + 1 = steps.2 in
    let within : c.loop-i.i-iterator.count < length c.loop-i.codes = omega (arith, c.loop-i.invariant.room, c.loop-i.invariant.long) in
    record {
      size = steps.0.0 ∙ c.loop-i.invariant.size;
      room = omega (arith, c.loop-i.invariant.room);
      long = length-set c.loop-i.codes c.in-Some.i c.code_of.result ∙ c.loop-i.invariant.long;
      rest =
          c.loop-i.invariant.rest
          ∙ ap (λ l. take c.loop-i.i-iterator.count c.loop-i.codes ++ map code l) (one-comes s t row c.loop-i.invariant.size steps.0)
          ∙ ap (λ (v : ℕ). take c.loop-i.i-iterator.count c.loop-i.codes ++ (v ∷ map code (operator_rows (chunks_exact_rest t)))) (sym c.code_of.ensures)
          ∙ stored c.loop-i.codes c.loop-i.i-iterator.count c.code_of.result (map code (operator_rows (chunks_exact_rest t))) within
          ∙ (λ j. take (sym more j) (set c.loop-i.codes (sym at j) c.code_of.result) ++ map code (operator_rows (chunks_exact_rest t)));
    }
