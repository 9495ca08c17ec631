-- Small logs, read whole into a fresh desk: the answer and its place, by computing.
-- Assumes nothing.
use mathlib.Core.Path.{◌≡◌, refl}
use mathlib.Core.List.{List, [], ◌∷◌, ◌++◌, map}
use Prim.Native.Nat.{ℕ}
use Rattle.text.specs.Run.{all, between, other}
use Rattle.text_equality.specs.Same.{lower, same_by, begins_folded}
use Rattle.line_quotes.specs.Quoted.{is_quoted_by, is_quoted}
use Rattle.line_values.specs.Value.{may_begin, is_reserved, is_bare, is_value, is_unassigned}
use Rattle.line_items.specs.Items.{items}
use Rattle.line_kinds.specs.Kinds.{passes, fits}
use Rattle.desk_state.specs.Desks.{sheet_of_bench}
use Rattle.desk_entries.specs.Entry.{open_to}
use Rattle.desk_log.specs.Record.{length_told}
use Rattle.reader_cuts.specs.Reading.{place_answered, read_from, read_all}
use Rattle.reader_records.specs.Shape.{shaped}
use Rattle.reader_entries.specs.Judged.{refusal_of, store_of}
use Rattle.theorem_reader.specs.Parts.{whole}

pub record Case : Type 0 where
  pub log : List ℕ
  pub answer : ℕ
  pub place : ℕ

-- the record of item 10 from bench 0 with the value AB
first : List ℕ
first = 8 ∷ 0 ∷ 1 ∷ 0 ∷ 0 ∷ 10 ∷ 65 ∷ 66 ∷ []

pub cases : List Case
cases =
    record { log = []; answer = 0; place = 0 }
    ∷ record { log = first; answer = 0; place = 0 }
    ∷ record { log = first ++ first; answer = 0; place = 0 }
    -- five bytes left, and six that tell more than are left
    ∷ record { log = first ++ (10 ∷ 0 ∷ 1 ∷ 0 ∷ 0 ∷ []); answer = 20; place = 8 }
    ∷ record { log = first ++ (7 ∷ 0 ∷ 1 ∷ 0 ∷ 0 ∷ 10 ∷ []); answer = 20; place = 8 }
    -- bad lengths, 6, 207 and 256 + 8, the first though no byte is missing
    ∷ record { log = first ++ (6 ∷ 0 ∷ 1 ∷ 0 ∷ 0 ∷ 10 ∷ []); answer = 18; place = 8 }
    ∷ record { log = 207 ∷ 0 ∷ 1 ∷ 0 ∷ 0 ∷ 10 ∷ []; answer = 18; place = 0 }
    ∷ record { log = 8 ∷ 1 ∷ 1 ∷ 0 ∷ 0 ∷ 10 ∷ []; answer = 18; place = 0 }
    -- a kind, a bench, an item and a byte that are none
    ∷ record { log = 7 ∷ 0 ∷ 2 ∷ 0 ∷ 0 ∷ 10 ∷ 65 ∷ []; answer = 18; place = 0 }
    ∷ record { log = 7 ∷ 0 ∷ 1 ∷ 0 ∷ 4 ∷ 10 ∷ 65 ∷ []; answer = 18; place = 0 }
    ∷ record { log = 7 ∷ 0 ∷ 1 ∷ 0 ∷ 0 ∷ 0 ∷ 65 ∷ []; answer = 18; place = 0 }
    ∷ record { log = 7 ∷ 0 ∷ 1 ∷ 0 ∷ 0 ∷ 10 ∷ 31 ∷ []; answer = 18; place = 0 }
    -- a foreign overwrite within a sheet; the same item of the other sheet is free, and the owner may write again
    ∷ record { log = first ++ (7 ∷ 0 ∷ 1 ∷ 0 ∷ 1 ∷ 10 ∷ 65 ∷ []); answer = 19; place = 8 }
    ∷ record { log = first ++ (7 ∷ 0 ∷ 1 ∷ 0 ∷ 2 ∷ 10 ∷ 65 ∷ []); answer = 0; place = 0 }
    ∷ record { log = first ++ (7 ∷ 0 ∷ 1 ∷ 0 ∷ 0 ∷ 10 ∷ 63 ∷ []); answer = 0; place = 0 }
    ∷ []

pub cases-hold : map {B = ℕ × ℕ} (λ (c : Case). ((whole c.log).answer, place_answered (whole c.log))) cases ≡ map {B = ℕ × ℕ} (λ (c : Case). (c.answer, c.place)) cases
unfolding cases first read_all read_from length_told refusal_of shaped store_of open_to sheet_of_bench fits passes items is_value is_bare is_quoted is_quoted_by is_reserved may_begin is_unassigned begins_folded same_by lower all between other
cases-hold = refl
