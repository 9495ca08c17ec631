-- What the comparison program is told by each reader, as numbers.
-- Assumes nothing.
use Rattle.std.specs.Prelude.{ℕ, cond, List, pos, ℤ, Option, Some, None}
use Rattle.line_quotes.specs.Quoted.{is_quoted}
use Rattle.line_values.specs.Value.{is_value, is_unassigned}
use Rattle.line_reader.specs.declared.line.Parts.{Parts}
use Rattle.test_probe.specs.declared.ProbeNumber.{ProbeNumber}
use Rattle.test_probe.specs.declared.ProbeLine.{ProbeLine}

-- the number in millionths and 1, or 0 and 0
abbrev pub number_told : Option ℤ → ProbeNumber
number_told (Some z) = record { millionths = z; found = 1 }
number_told None = record { millionths = pos 0; found = 0 }

-- 0 no value, 1 unassigned, 2 another bare value, 3 quoted
unfoldable pub form_told : List ℕ → ℕ
form_told t = cond (is_unassigned t) 1 (cond (is_quoted t) 3 (cond (is_value t) 2 0))

-- 1, where the name ends and where the value begins; or three zeros
abbrev pub line_told : Option Parts → ProbeLine
line_told (Some p) = record { found = 1; name_end = p.name_end; value_start = p.value_start }
line_told None = record { found = 0; name_end = 0; value_start = 0 }

-- the item, or 0
abbrev pub name_told : Option ℕ → ℕ
name_told (Some k) = k
name_told None = 0
