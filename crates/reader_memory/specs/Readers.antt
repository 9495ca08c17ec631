-- A reader's memory that a call changes in place.
-- Assumes nothing.
use Rattle.std.specs.Prelude.{◌≡◌}
use Rattle.reader_memory.specs.declared.Reader.{Reader}

-- both parts are still the caller's
abbrev pub StillLent : Reader → Reader → Type 0
StillLent r r' = (r'.kept.ghost_name ≡ r.kept.ghost_name) × (r'.state.ghost_name ≡ r.state.ghost_name)
