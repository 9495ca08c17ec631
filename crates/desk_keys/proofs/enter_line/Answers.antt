-- `desk_keys::enter_line` meets its contract: each arm is a case of `entered_as`.
-- Assumes nothing.
use Rattle.std.specs.Prelude.{Result}
use native.Mathlib.Omega.{arith}
use mathlib.Core.Path.{◌≡◌, refl, sym, ◌∙◌, ap}
use mathlib.Core.List.{List}
use Prim.Native.Nat.{ℕ, ◌+◌, ◌*◌, ◌-◌, ◌≤◌}
use lib.ListN.{length, get_or, take, drop, length-take}
use Rattle.line_items.specs.Typed.{line_most}
use Rattle.desk_state.specs.Lines.{typed}
use Rattle.desk_state.specs.Desks.{line_at}
use Rattle.line_reader.specs.Line.{class_of}
use Rattle.line_reader.specs.declared.line.LineEntry.{LineEntry}
use Rattle.line_reader.specs.declared.line.NoEntry.{NoEntry}
use Rattle.line_reader.proofs.Entries.{entry-is}
use Rattle.desk_keys.specs.Key.{entered_as}
use Rattle.desk_memory.specs.Memory.{desk_of, used_of}
use Rattle.desk_keys.proofs.Stores.{typed-lent}
use Rattle.desk_keys.proofs.enter_line.Goals as goal
use Rattle.desk_keys.proofs.enter_line.Goals.{Start}

short : (c : Start) → get_or c.args.numbers.now c.args.bench 0 ≤ line_most
short c = c.requires.short

-- what is typed, as it is lent
abbrev lent_line : Start → List ℕ
lent_line c =
    let a = c.args in
    take (a.bench * line_most + get_or a.numbers.now a.bench 0 - a.bench * line_most) (drop (a.bench * line_most) a.texts.now)

line-is : (c : Start) → lent_line c ≡ typed (line_at (desk_of c.args.texts.now c.args.numbers.now) c.args.bench)
line-is c =
    let a = c.args in
    typed-lent a.texts.now a.numbers.now a.bench c.requires.bench_in c.requires.sized (short c) (a.bench * line_most) (a.bench * line_most + get_or a.numbers.now a.bench 0) refl refl

-- an Enter by what the line is
by-line : (c : Start) {q : Result LineEntry NoEntry} → q ≡ class_of (lent_line c)
    → (let a = c.args in
    let d = desk_of a.texts.now a.numbers.now in
    let t = typed (line_at d a.bench) in
    entered_as q d (used_of a.numbers.now) a.log.now a.bench t ≡ entered_as (class_of t) d (used_of a.numbers.now) a.log.now a.bench t)
by-line c e =
    let a = c.args in
    let d = desk_of a.texts.now a.numbers.now in
    ap (λ (q : Result LineEntry NoEntry). entered_as q d (used_of a.numbers.now) a.log.now a.bench (typed (line_at d a.bench))) (e ∙ ap class_of (line-is c))

pub overflow_add-end : goal.overflow_add-end
overflow_add-end c = omega (arith, (short (goal.at.overflow_add-end c).Start), c.requires.bench_in)

pub slice_bounds-classify-end : goal.slice_bounds-classify-end
slice_bounds-classify-end c = omega (arith, (short (goal.at.slice_bounds-classify-end c).Start), c.requires.bench_in, c.requires.sized.texts)

pub store_if_open-requires : goal.store_if_open-requires
store_if_open-requires c =
    let e = entry-is (lent_line (goal.at.store_if_open-requires c).Start) c.in-Ok.entry.item c.in-Ok.entry.start (sym c.in-Ok.ensures) in
    let l : length (lent_line (goal.at.store_if_open-requires c).Start) ≤ get_or c.args.numbers.now c.args.bench 0 = simp length-take (omega arith) in
    (e.some, e.known, omega (arith, e.within), c.requires)

pub returns-in-Ok : goal.returns-in-Ok
returns-in-Ok c = c.store_if_open.ensures ∙ by-line (goal.at.returns-in-Ok c).Start c.in-Ok.ensures

pub returns-in-Err-BadForm : goal.returns-in-Err-BadForm
returns-in-Err-BadForm c = by-line (goal.at.returns-in-Err-BadForm c).Start (rw c.in-Err-BadForm.field-0-is at c.in-Err-BadForm.ensures)

pub returns-in-Err-UnknownName : goal.returns-in-Err-UnknownName
returns-in-Err-UnknownName c = by-line (goal.at.returns-in-Err-UnknownName c).Start (rw c.in-Err-UnknownName.field-0-is at c.in-Err-UnknownName.ensures)

pub returns-in-Err-WrongKind : goal.returns-in-Err-WrongKind
returns-in-Err-WrongKind c = by-line (goal.at.returns-in-Err-WrongKind c).Start (rw c.in-Err-WrongKind.field-0-is at c.in-Err-WrongKind.ensures)
