-- A record of the log (document 01, "The log").
-- Assumes nothing.
use Rattle.std.specs.Prelude.{ℕ, ◌+◌, ◌*◌, Bool, cond, ◌&&◌, Option, Some, None, List, [], ◌∷◌, ◌++◌, leb, length, get_or, take, drop}
use Rattle.text.specs.Little.{little}

-- the bytes of a record before its value
abbrev pub head_length : ℕ
head_length = 6

-- "Length is 6 plus the value's"
abbrev pub record_length : List ℕ → ℕ
record_length value = head_length + length value

-- the longest record whose length has two bytes
abbrev pub record_most : ℕ
record_most = 65535

-- "length of the whole record (two bytes), kind 1 (two bytes), bench, item", for a value of n bytes; numbers are "little-endian"
abbrev pub head_of : ℕ → ℕ → ℕ → List ℕ
head_of n bench item = little 2 (head_length + n) ++ (little 2 1 ++ (bench ∷ item ∷ []))

-- the head, and "the value as typed"
abbrev pub record_of : ℕ → ℕ → List ℕ → List ℕ
record_of bench item value = head_of (length value) bench item ++ value

-- what bytes that begin with a record tell of it: "length of the whole record (two bytes)", "little-endian"; after "kind 1 (two bytes)" its "bench, item"; and its value
unfoldable pub length_told : List ℕ → ℕ
length_told bs = get_or bs 0 0 + 256 * get_or bs 1 0

abbrev pub bench_told : List ℕ → ℕ
bench_told bs = get_or bs 4 0

abbrev pub item_told : List ℕ → ℕ
item_told bs = get_or bs 5 0

abbrev pub value_told : List ℕ → List ℕ
value_told r = drop head_length r

-- the record is not "longer than the unused part of the log", of so many bytes
abbrev pub record_fits : ℕ → List ℕ → Bool
record_fits unused value = leb (record_length value) unused

-- the record at the byte `used`, "the first unused byte" of a log; "all other bytes stay"
abbrev pub with_record : ℕ → List ℕ → ℕ → ℕ → List ℕ → List ℕ
with_record used log bench item value = take used log ++ (record_of bench item value ++ drop (used + record_length value) log)

-- what the writer can write in the free part: a record that fits it and is not longer than the longest
unfoldable pub has_room : List ℕ → List ℕ → Bool
has_room free value = record_fits (length free) value && leb (record_length value) record_most

-- what the writer answers: how many bytes it wrote, or that it had no room
unfoldable pub written_of : List ℕ → List ℕ → Option ℕ
written_of free value = cond (has_room free value) (Some (record_length value)) None

-- the free part with the record at its first byte
unfoldable pub free_after : List ℕ → ℕ → ℕ → List ℕ → List ℕ
free_after free bench item value = cond (has_room free value) (with_record 0 free bench item value) free
