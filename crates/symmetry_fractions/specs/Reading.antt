-- Signs and fractions as the code reads them. `Wording` (proofs) shows that it is the grammar's.
-- Assumes nothing.
use Rattle.std.specs.Prelude.{ℕ, ◌-◌, ◌*◌, Bool, cond, ◌&&◌, ◌||◌, Option, Some, None, option_map, List, leb, ltb, eqb, length, get_or}
use Rattle.symmetry_fractions.specs.Grammar.{one_in24ths}

-- the length of a fraction without its sign
abbrev pub fraction_length : ℕ
fraction_length = 3

unfoldable pub is_sign : ℕ → Bool
is_sign b = eqb b 43 || eqb b 45

-- n 24ths after a sign: "Translations count modulo 1". So a factor −1 is 23
unfoldable pub signed24ths : ℕ → ℕ → ℕ
signed24ths sign n = cond (eqb sign 45) (one_in24ths - n) n

-- how many 24ths one is, divided by the denominator with that digit
unfoldable pub unit_of : ℕ → Option ℕ
unit_of d =
    cond (eqb d 50) (Some 12)
    (cond (eqb d 51) (Some 8) (cond (eqb d 52) (Some 6) (cond (eqb d 54) (Some 4) (cond (eqb d 56) (Some 3) None))))

-- how many 24ths the fraction is that a text begins with
unfoldable pub fraction_of : List ℕ → Option ℕ
fraction_of s =
    cond (leb fraction_length (length s) && (eqb (get_or s 1 0) 47 && (leb 49 (get_or s 0 0) && ltb (get_or s 0 0) (get_or s 2 0))))
    (option_map (λ (u : ℕ). (get_or s 0 0 - 48) * u) (unit_of (get_or s 2 0)))
    None
