-- Worked examples as one table, under one statement that antt computes.
-- Assumes nothing.
use Rattle.std.specs.Prelude.{ℤ, Option, Some, None}
use mathlib.Core.Path.{◌≡◌, refl}
use mathlib.Core.List.{List, [], ◌∷◌, map}
use Prim.Native.String.{String}
use lib.IntN.{pos, negsuc}
use Rattle.text.specs.Quote.{bytes}
use Rattle.text.specs.Run.{between, run_of, has_at, kind_at}
use Rattle.number_decimal.specs.Digits.{value_from}
use Rattle.number_decimal.specs.Reading.{closes_bracket, is_tail, size_of, unsigned_of, reading_of}

pub record Vector : Type 0 where
  pub typed : String
  pub read : Option ℤ

infixr 4 ◌reads◌
abbrev ◌reads◌ : String → Option ℤ → Vector
◌reads◌ t r = record { typed = t; read = r }

unfoldable pub vectors : List Vector
vectors =
    ("0.16" reads Some (pos 160000)) ∷
    ("0.200001" reads Some (pos 200001)) ∷
    ("-0.05" reads Some (negsuc 49999)) ∷
    ("-0.06" reads Some (negsuc 59999)) ∷
    ("138.8673" reads Some (pos 138867300)) ∷
    ("138.8672" reads Some (pos 138867200)) ∷
    ("126.243" reads Some (pos 126243000)) ∷
    ("126.242(15)" reads Some (pos 126242000)) ∷
    ("141.27" reads Some (pos 141270000)) ∷
    ("+7" reads Some (pos 7000000)) ∷
    ("-0" reads Some (pos 0)) ∷
    ("999999999" reads Some (pos 999999999000000)) ∷
    ("1234567890" reads None) ∷
    ("1.2345678" reads None) ∷
    ("1(12345)" reads None) ∷
    ("1()" reads None) ∷
    ("?" reads None) ∷
    ("" reads None) ∷
    -- document 02, No. 4
    (".045" reads Some (pos 45000)) ∷
    ("45." reads Some (pos 45000000)) ∷
    ("-.5(3)" reads Some (negsuc 499999)) ∷
    ("45.(3)" reads Some (pos 45000000)) ∷
    ("1." reads Some (pos 1000000)) ∷
    (".0412(7)" reads Some (pos 41200)) ∷
    ("+.000001" reads Some (pos 1)) ∷
    ("-999999999.(9999)" reads Some (negsuc 999999998999999)) ∷
    ("." reads None) ∷
    ("-." reads None) ∷
    ("+." reads None) ∷
    (".(3)" reads None) ∷
    ("-.(3)" reads None) ∷
    ("1234567890." reads None) ∷
    (".1234567" reads None) ∷
    ("1..2" reads None) ∷ []

pub vectors-hold : map (λ (x : Vector). reading_of (bytes x.typed)) vectors ≡ map (λ (x : Vector). x.read) vectors
unfolding vectors reading_of unsigned_of size_of is_tail closes_bracket run_of has_at kind_at between value_from
vectors-hold = refl
