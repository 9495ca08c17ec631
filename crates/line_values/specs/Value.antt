-- A value (document 01, "A line, a number").
-- Assumes nothing.
use Rattle.std.specs.Prelude.{ℕ, Bool, ◌&&◌, ◌||◌, not, List, leb, eqb, length, get_or}
use Rattle.text.specs.Quote.{bytes}
use Rattle.text.specs.Run.{all, other}
use Rattle.text_equality.specs.Same.{same_folded, begins_folded}
use Rattle.line_quotes.specs.Quoted.{is_quoted}

-- "first byte none of ' " _ # $ [ ]"
unfoldable pub may_begin : ℕ → Bool
may_begin b = all (other b) (bytes "'\"_#$[]")

-- "no bare value begins data_ or save_ or is loop_, stop_ or global_, small letters or capitals"
unfoldable pub is_reserved : List ℕ → Bool
is_reserved t =
    begins_folded t (bytes "data_") || (begins_folded t (bytes "save_")
    || (same_folded t (bytes "loop_") || (same_folded t (bytes "stop_") || same_folded t (bytes "global_"))))

-- "bare (no spaces, first byte none of ..)"
unfoldable pub is_bare : List ℕ → Bool
is_bare t = leb 1 (length t) && (may_begin (get_or t 0 0) && (all (other 32) t && not (is_reserved t)))

-- "A value is bare .. or quoted"
unfoldable pub is_value : List ℕ → Bool
is_value t = is_bare t || is_quoted t

-- "A bare ? or . is unassigned"
unfoldable pub is_unassigned : List ℕ → Bool
is_unassigned t = eqb (length t) 1 && (eqb (get_or t 0 0) 63 || eqb (get_or t 0 0) 46)
