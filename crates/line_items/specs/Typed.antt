-- What a line can hold (document 01, "What the desk holds", "Keys and their refusals").
-- Assumes nothing.
use Rattle.std.specs.Prelude.{ℕ, Bool}
use Rattle.text.specs.Run.{between}

-- "one unfinished line of 0 to 80 bytes"; document 02, No. 6: "Document 01's limits at 80 become 200"
abbrev pub line_most : ℕ
line_most = 200

-- bytes that a line can hold: "32 to 126 are appended"
abbrev pub is_typed : ℕ → Bool
is_typed = between 32 126
