-- The number that a key call answers, by tests in the code's order. It is a means: what it stands for is the table of specs/Key.antt, by `number-answers`
-- (proofs/KeyAnswers.antt). Document 01 reads the table twice, of a desk and of what a sequence of calls has typed and entered; both are instances.
-- Assumes nothing.
use Rattle.std.specs.Prelude.{ℕ, Bool, cond, List, ltb, leb, eqb, drop, Result, Ok, Err}
use Rattle.line_items.specs.Typed.{line_most, is_typed}
use Rattle.line_reader.specs.Line.{class_of}
use Rattle.line_reader.specs.declared.line.LineEntry.{LineEntry}
use Rattle.line_reader.specs.declared.line.NoEntry.{NoEntry}
use Rattle.line_reader.specs.declared.line.NoEntry.TheVariants as no_entry
use Rattle.desk_log.specs.Record.{record_length}
use Rattle.desk_state.specs.Desks.{bench_count}

-- an Enter, by what the line t is, where `may` tells which items the bench may write, with so many bytes of the log unused
abbrev pub enter_number : Result LineEntry NoEntry → List ℕ → (ℕ → Bool) → ℕ → ℕ
enter_number (Err no_entry.BadForm) t may unused = 5
enter_number (Err no_entry.UnknownName) t may unused = 6
enter_number (Err no_entry.WrongKind) t may unused = 7
enter_number (Ok at) t may unused = cond (may at.item) (cond (leb (record_length (drop at.start t)) unused) 0 8) 9

-- a byte, with the line t of that size
abbrev pub byte_number : List ℕ → ℕ → (ℕ → Bool) → ℕ → ℕ → ℕ
byte_number t size may unused byte =
    cond (is_typed byte) (cond (ltb size line_most) 0 4)
    (cond (eqb byte 8) 0
    (cond (eqb byte 24) 0
    (cond (eqb byte 10) (enter_number (class_of t) t may unused)
    3)))

-- a key call
abbrev pub key_number : Bool → List ℕ → ℕ → (ℕ → Bool) → ℕ → ℕ → ℕ → ℕ
key_number sound t size may unused bench byte = cond (ltb bench bench_count) (cond sound (byte_number t size may unused byte) 2) 1
