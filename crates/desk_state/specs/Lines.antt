-- An unfinished line (document 01, "What the desk holds").
-- Assumes nothing.
use Rattle.std.specs.Prelude.{ℕ, ◌+◌, ◌-◌, cond, ◌&&◌, List, ◌++◌, ltb, leb, length, take, set, replicate}
use Rattle.line_items.specs.Typed.{line_most}
use Rattle.desk_state.specs.declared.line.Line.{Line}

-- the text, and zeros to the longest line: "unused bytes are zero"
abbrev pub padded : List ℕ → List ℕ
padded t = t ++ replicate (line_most - length t) 0

-- what is typed on a line
abbrev pub typed : Line → List ℕ
typed l = take l.len l.bytes

-- the line on which t is typed
abbrev pub line_of : List ℕ → Line
line_of t = record { bytes = padded t; len = length t }

-- the line on which nothing is typed
abbrev pub empty_line : Line
empty_line = record { bytes = replicate line_most 0; len = 0 }

-- "32 to 126 are appended": the line with one byte more; a full line as it is
unfoldable pub appended : Line → ℕ → Line
appended l b = cond (ltb l.len line_most) (record { bytes = set l.bytes l.len b; len = l.len + 1 }) l

-- "Erasing takes the last byte; on an empty line it .. changes nothing"; a line that is too long stays as it is
unfoldable pub erased : Line → Line
erased l = cond (leb 1 l.len && leb l.len line_most) (record { bytes = set l.bytes (l.len - 1) 0; len = l.len - 1 }) l
