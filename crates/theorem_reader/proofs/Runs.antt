-- A run of parts in lent memory is the run that the theorems about parts speak of.
-- Assumes nothing.
use mathlib.Core.Path.{◌≡◌, refl, ap, ◌∙◌}
use mathlib.Core.Bool.{true}
use mathlib.Core.List.{List, ◌∷◌}
use Prim.Native.Nat.{ℕ}
use Rattle.desk_state.specs.declared.desk.Desk.{Desk}
use Rattle.desk_memory.specs.Memory.{is_desk, desk_of, used_of}
use Rattle.desk_memory.proofs.Desks.{zeros-fresh, still-desk}
use Rattle.reader_left.specs.Left.{Left, left}
use Rattle.theorem_reader.specs.Parts.{Between, left_for, LogPart, fresh, fed, after_parts, part_answers}
use Rattle.theorem_reader.specs.Runs.{Memory, between_in, fresh_memory, Run, done, feeds, MemoryParts}

pub record Follows (m : Memory) (cs : List LogPart) (xs : List (ℕ × ℕ)) (m' : Memory) : Type 0 where
  pub answers : xs ≡ part_answers (between_in m) cs
  pub left_so : between_in m' ≡ after_parts (between_in m) cs

pub run-follows : {m m' : Memory} {cs : List LogPart} {xs : List (ℕ × ℕ)} → Run m cs xs m' → is_desk m.texts m.numbers ≡ true → Follows m cs xs m'
run-follows done d = record { answers = refl; left_so = refl }
run-follows (feeds {m = m} {m' = m'} {m'' = m''} {c = c} {a = a} {place = place} {cs = cs} {xs = xs} h r) d =
    let e : left a place (desk_of m'.texts m'.numbers) (used_of m'.numbers) m'.kept m'.state ≡ fed (between_in m) c = h.desk d in
    let f = run-follows r (still-desk m.texts m.numbers m'.texts m'.numbers h.same_length.0 h.same_length.1 ∙ d) in
    record {
      answers = ap (λ (l : List (ℕ × ℕ)). (a, place) ∷ l) f.answers ∙ ap (λ (x : Left). (x.answer, x.place) ∷ part_answers (left_for x) cs) e;
      left_so = f.left_so ∙ ap (λ (x : Left). after_parts (left_for x) cs) e;
    }

zeros-are : between_in fresh_memory ≡ fresh
zeros-are = ap (λ (d : Desk). record { desk = d; used = used_of fresh_memory.numbers; kept = fresh_memory.kept; state = fresh_memory.state }) zeros-fresh.1

-- every run from zeros
pub memory-parts : {cs : List LogPart} {xs : List (ℕ × ℕ)} {m : Memory} → Run fresh_memory cs xs m → MemoryParts cs xs m
memory-parts {cs = cs} r =
    let f = run-follows r zeros-fresh.0 in
    record {
      answers = f.answers ∙ ap (λ (b : Between). part_answers b cs) zeros-are;
      left_so = f.left_so ∙ ap (λ (b : Between). after_parts b cs) zeros-are;
    }
