-- `desk_keys::store` meets its contract: the writer had room or not.
-- Assumes nothing.
use native.Mathlib.Omega.{arith}
use mathlib.Core.Path.{◌≡◌, sym, ◌∙◌, ap}
use mathlib.Core.List.{List}
use Prim.Native.Nat.{ℕ, ◌+◌, ◌*◌, ◌-◌, ◌≤◌}
use borrow.Rule.Slice.PartMut.{put_mid}
use lib.ListN.{length, get_or, take, drop, length-take}
use Rattle.line_items.specs.Typed.{line_most}
use Rattle.desk_state.specs.Lines.{typed}
use Rattle.desk_state.specs.Desks.{line_at}
use Rattle.std.specs.Prelude.{Some, None}
use Rattle.std.proofs.lemmas.Result.{err_from_is_err_and}
use Rattle.desk_answers.specs.declared.KeyRefusal.TheVariants.{NoRoom}
use Rattle.desk_keys.specs.Key.{entered, stored}
use Rattle.desk_log.specs.Record.{head_length, record_length}
use Rattle.desk_keys.proofs.Keys.{stored-none, stored_some, written-within, value_written}
use Rattle.desk_memory.specs.Memory.{desk_of, used_of}
use Rattle.desk_keys.proofs.Stores.{value_lent}
use Rattle.desk_keys.proofs.Cases.{leaves-desk}
use Rattle.desk_keys.proofs.store.Goals as goal
use Rattle.desk_keys.proofs.store.Goals.{In_ok-n, Start}

short : (c : Start) → get_or c.args.numbers.now c.args.bench 0 ≤ line_most
short c = c.requires.3.short

-- the value as it is lent
abbrev lent_value : Start → List ℕ
lent_value c =
    let a = c.args in
    take (a.bench * line_most + get_or a.numbers.now a.bench 0 - (a.bench * line_most + a.start)) (drop (a.bench * line_most + a.start) a.texts.now)

value-is : (c : Start) → lent_value c ≡ drop c.args.start (typed (line_at (desk_of c.args.texts.now c.args.numbers.now) c.args.bench))
value-is c =
    let a = c.args in
    let l = c.requires.3 in
    value_lent a.texts.now a.numbers.now a.bench l.bench_in l.sized (short c) a.start
    (a.bench * line_most + get_or a.numbers.now a.bench 0 - (a.bench * line_most + a.start)) c.requires.2 (omega arith)

value-short : (c : Start) → length (lent_value c) ≤ line_most
value-short c = let s = short c in simp length-take (omega arith)

pub overflow_add-from : goal.overflow_add-from
overflow_add-from c = omega (arith, (short (goal.at.overflow_add-from c).Start), c.requires.3.bench_in)

pub overflow_add-end : goal.overflow_add-end
overflow_add-end c = omega (arith, (short (goal.at.overflow_add-end c).Start), c.requires.3.bench_in)

pub slice_bounds-write_record-end-2 : goal.slice_bounds-write_record-end-2
slice_bounds-write_record-end-2 c = omega (arith, (short (goal.at.slice_bounds-write_record-end-2 c).Start), c.requires.3.bench_in, c.requires.3.sized.texts)

pub returns-in_err-n : goal.returns-in_err-n
returns-in_err-n c =
    let a = c.args in
    let t = a.texts.now in
    let n = a.numbers.now in
    let none : c.write_record.result ≡ None = grind arith in
    let full : c.in_err-n.field-0.0 ≡ NoRoom = grind arith in
    let p = err_from_is_err_and c.from_residual.result c.from_residual.ensures.1 in
    rw (p.1, p.2, full) (stored-none (desk_of t n) (used_of n) a.log.now a.bench a.item (lent_value (goal.at.returns-in_err-n c).Start) _ (value-short (goal.at.returns-in_err-n c).Start) c.requires.3.room c.write_record.ensures.1
    (sym c.write_record.ensures.0 ∙ none)
    ∙ ap (λ (v : List ℕ). stored (desk_of t n) (used_of n) a.log.now a.bench a.item v) (value-is (goal.at.returns-in_err-n c).Start))

-- there was room
taken : (c : In_ok-n) → c.write_record.result ≡ Some c.in_ok-n.n
taken c = grind arith

-- the record was written, and the value stands in it
wrote : (c : In_ok-n) → (let lent_value : List ℕ = let a = c.args in take (a.bench * line_most + get_or a.numbers.now a.bench 0 - (a.bench * line_most + a.start)) (drop (a.bench * line_most + a.start) a.texts.now) in (let a = c.args in
    (record_length lent_value ≡ c.in_ok-n.n) × (used_of a.numbers.now + c.in_ok-n.n ≤ length a.log.now)))
wrote c =
    let short : get_or c.args.numbers.now c.args.bench 0 ≤ line_most = c.requires.3.short in
    let lent_value : List ℕ = let a = c.args in
    take (a.bench * line_most + get_or a.numbers.now a.bench 0 - (a.bench * line_most + a.start)) (drop (a.bench * line_most + a.start) a.texts.now) in
    let value-short : length lent_value ≤ line_most = let s = short in simp length-take (omega arith) in
    let a = c.args in
    written-within (desk_of a.texts.now a.numbers.now) (used_of a.numbers.now) a.log.now a.bench a.item lent_value _ value-short c.requires.3.room
    c.write_record.ensures.1 c.in_ok-n.n (sym c.write_record.ensures.0 ∙ taken c)

-- the log as it then is
abbrev new_log : In_ok-n → List ℕ
new_log c =
    let a = c.args in
    put_mid (used_of a.numbers.now) (length a.log.now - used_of a.numbers.now) a.log.now c.write_record.new.free

value-here : (c : In_ok-n) → (let lent_value : List ℕ = let a = c.args in take (a.bench * line_most + get_or a.numbers.now a.bench 0 - (a.bench * line_most + a.start)) (drop (a.bench * line_most + a.start) a.texts.now) in (let used = used_of c.args.numbers.now in
    take (used + c.in_ok-n.n - (used + head_length)) (drop (used + head_length) (new_log c)) ≡ lent_value))
value-here c =
    let short : get_or c.args.numbers.now c.args.bench 0 ≤ line_most = c.requires.3.short in
    let lent_value : List ℕ = let a = c.args in
    take (a.bench * line_most + get_or a.numbers.now a.bench 0 - (a.bench * line_most + a.start)) (drop (a.bench * line_most + a.start) a.texts.now) in
    let value-short : length lent_value ≤ line_most = let s = short in simp length-take (omega arith) in
    let a = c.args in
    value_written (desk_of a.texts.now a.numbers.now) (used_of a.numbers.now) a.log.now a.bench a.item lent_value _ value-short c.requires.3.room
    c.write_record.ensures.1 c.in_ok-n.n (sym c.write_record.ensures.0 ∙ taken c)

pub overflow_add-next : goal.overflow_add-next
overflow_add-next c = omega (arith, (wrote (goal.at.overflow_add-next c).In_ok-n).0, (value-short (goal.at.overflow_add-next c).Start), c.requires.3.room)

pub overflow_add-used : goal.overflow_add-used
overflow_add-used c = omega (arith, (wrote (goal.at.overflow_add-used c).In_ok-n).0, (wrote (goal.at.overflow_add-used c).In_ok-n).1)

pub slice_bounds-enter_desk-count : goal.slice_bounds-enter_desk-count
slice_bounds-enter_desk-count c = omega (arith, (wrote (goal.at.slice_bounds-enter_desk-count c).In_ok-n).0)

pub slice_bounds-enter_desk-start : goal.slice_bounds-enter_desk-start
slice_bounds-enter_desk-start c = omega (arith, (wrote (goal.at.slice_bounds-enter_desk-start c).In_ok-n).0)

pub slice_bounds-enter_desk-end : goal.slice_bounds-enter_desk-end
slice_bounds-enter_desk-end c = omega (arith, (wrote (goal.at.slice_bounds-enter_desk-end c).In_ok-n).1)

pub enter_desk-requires : goal.enter_desk-requires
enter_desk-requires c =
    let l = c.requires.3 in
    (l.bench_in, l.sized, l.takes_entry c.args.item _ c.requires.0 c.requires.1 (omega (arith, (value-short (goal.at.enter_desk-requires c).Start), ap length (value-here (goal.at.enter_desk-requires c).In_ok-n))))

pub returns : goal.returns
returns c =
    let a = c.args in
    let t = a.texts.now in
    let n = a.numbers.now in
    leaves-desk _ c.enter_desk.new.texts c.enter_desk.new.numbers _ c.enter_desk.ensures.1
    ∙ stored_some (desk_of t n) (used_of n) a.log.now a.bench a.item (lent_value (goal.at.returns c).Start) _ (value-short (goal.at.returns c).Start) c.requires.3.room c.write_record.ensures.1
    c.in_ok-n.n (desk_of c.enter_desk.new.texts c.enter_desk.new.numbers)
    (c.enter_desk.ensures.0 ∙ ap (λ (v : List ℕ). entered (desk_of t n) a.bench a.item v) (value-here (goal.at.returns c).In_ok-n))
    (sym c.write_record.ensures.0 ∙ taken (goal.at.returns c).In_ok-n)
    ∙ ap (λ (v : List ℕ). stored (desk_of t n) (used_of n) a.log.now a.bench a.item v) (value-is (goal.at.returns c).Start)
