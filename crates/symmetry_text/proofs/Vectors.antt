-- Worked examples as one table, under one statement that antt computes.
-- Assumes nothing.
use mathlib.Core.Path.{◌≡◌, refl}
use mathlib.Core.List.{List, [], ◌∷◌, map}
use Prim.Native.Nat.{ℕ}
use Prim.Native.String.{String}
use lib.IntN.{ℤ, pos, negsuc}
use lib.ListN.{replicate}
use Rattle.text.specs.Quote.{bytes}
use Rattle.text.specs.Run.{run_of, other, has_at, kind_at}
use Rattle.symmetry_fractions.specs.Reading.{is_sign, signed24ths, unit_of, fraction_of}
use Rattle.symmetry_parts.specs.Reading.{factor, is_free, with_letter, last_fraction, more_of, after_first_sign, part_of}
use Rattle.symmetry_readings.specs.Answers.{row_length, reading_number, numbers}
use Rattle.symmetry_text.specs.Reading.{parts_of, at_comma, reading_of}

pub record Vector : Type 0 where
  pub typed : String
  pub number : ℕ
  pub row : List ℤ

infixr 4 ◌reads◌
abbrev ◌reads◌ : String → List ℤ → Vector
◌reads◌ t r = record { typed = t; number = 0; row = r }

abbrev none : String → Vector
none t = record { typed = t; number = 13; row = replicate row_length (pos 0) }

-- the row of the last text that is read is singular
unfoldable pub vectors : List Vector
vectors =
    ("x,y,z" reads (pos 1 ∷ pos 0 ∷ pos 0 ∷ pos 0 ∷ pos 1 ∷ pos 0 ∷ pos 0 ∷ pos 0 ∷ pos 1 ∷ pos 0 ∷ pos 0 ∷ pos 0 ∷ [])) ∷
    ("-x,y+1/2,-z+1/2" reads (negsuc 0 ∷ pos 0 ∷ pos 0 ∷ pos 0 ∷ pos 1 ∷ pos 0 ∷ pos 0 ∷ pos 0 ∷ negsuc 0 ∷ pos 0 ∷ pos 12 ∷ pos 12 ∷ [])) ∷
    ("1/2+x,-y,z" reads (pos 1 ∷ pos 0 ∷ pos 0 ∷ pos 0 ∷ negsuc 0 ∷ pos 0 ∷ pos 0 ∷ pos 0 ∷ pos 1 ∷ pos 12 ∷ pos 0 ∷ pos 0 ∷ [])) ∷
    ("+x,+1/2-y,-1/2+z" reads (pos 1 ∷ pos 0 ∷ pos 0 ∷ pos 0 ∷ negsuc 0 ∷ pos 0 ∷ pos 0 ∷ pos 0 ∷ pos 1 ∷ pos 0 ∷ pos 12 ∷ pos 12 ∷ [])) ∷
    ("x-y,x,z+1/6" reads (pos 1 ∷ negsuc 0 ∷ pos 0 ∷ pos 1 ∷ pos 0 ∷ pos 0 ∷ pos 0 ∷ pos 0 ∷ pos 1 ∷ pos 0 ∷ pos 0 ∷ pos 4 ∷ [])) ∷
    ("x-1/4,y,z" reads (pos 1 ∷ pos 0 ∷ pos 0 ∷ pos 0 ∷ pos 1 ∷ pos 0 ∷ pos 0 ∷ pos 0 ∷ pos 1 ∷ pos 18 ∷ pos 0 ∷ pos 0 ∷ [])) ∷
    ("z-y+x+7/8,y+2/4,z-2/3" reads (pos 1 ∷ negsuc 0 ∷ pos 1 ∷ pos 0 ∷ pos 1 ∷ pos 0 ∷ pos 0 ∷ pos 0 ∷ pos 1 ∷ pos 21 ∷ pos 12 ∷ pos 8 ∷ [])) ∷
    ("x,x,x" reads (pos 1 ∷ pos 0 ∷ pos 0 ∷ pos 1 ∷ pos 0 ∷ pos 0 ∷ pos 1 ∷ pos 0 ∷ pos 0 ∷ pos 0 ∷ pos 0 ∷ pos 0 ∷ [])) ∷
    none "X,y,z" ∷
    none "x,y" ∷
    none "x,y,z,x" ∷
    none "x,y,z " ∷
    none "x, y,z" ∷
    none "x,y,1/2" ∷
    none "x+1/2+y,y,z" ∷
    none "1/2+x+1/2,y,z" ∷
    none "x+x,y,z" ∷
    none "x-x,y,z" ∷
    none "+,y,z" ∷
    none "x+,y,z" ∷
    none "xy,y,z" ∷
    none "++x,y,z" ∷
    none "x,,z" ∷
    none "x,y,z+4/4" ∷
    none "x,y,z+0/2" ∷
    none "x,y,z+1/5" ∷
    none "x,y,z+01/2" ∷
    none "x,y,z1/2" ∷
    none "x,y,z+1" ∷
    none "x,y,z+0.5" ∷
    none ",," ∷
    none "" ∷ []

-- what reading a text answers: the number, and the twelve numbers
abbrev answer_of : List ℕ → ℕ × List ℤ
answer_of t = (reading_number (reading_of t), numbers (reading_of t))

abbrev expected : Vector → ℕ × List ℤ
expected v = (v.number, v.row)

pub vectors-hold : map (λ (v : Vector). answer_of (bytes v.typed)) vectors ≡ map expected vectors
unfolding vectors at_comma parts_of part_of after_first_sign more_of last_fraction with_letter is_free factor fraction_of unit_of signed24ths is_sign run_of has_at kind_at other
vectors-hold = refl
