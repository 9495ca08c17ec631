-- The tables of document 01, "The twelve rows": symbols, metals and weights.
-- Assumes nothing.
use Rattle.std.specs.Prelude.{ℕ, suc, Bool, cond, ◌&&◌, not, List, [], ◌∷◌, eqb, get_or, Option, Some, None}
use Rattle.std.specs.Option.{is_some}
use Prim.Native.String.{String}
use Rattle.text.specs.Quote.{bytes}
use Rattle.formula_elements.specs.declared.Symbol.{Symbol}

-- C
abbrev pub carbon : Symbol
carbon = record { first = 67; second = 32 }

-- H
abbrev pub hydrogen : Symbol
hydrogen = record { first = 72; second = 32 }

-- the symbols x y and a b are the same
unfoldable pub same_symbol : ℕ → ℕ → ℕ → ℕ → Bool
same_symbol x y a b = eqb x a && eqb y b

-- a place counted from the symbol before
abbrev pub next_place : Option ℕ → Option ℕ
next_place (Some k) = Some (suc k)
next_place None = None

-- where a table of symbols, two bytes each, first has the symbol a b, counted from 0
unfoldable pub place_of : List ℕ → ℕ → ℕ → Option ℕ
place_of [] a b = None
place_of (x ∷ []) a b = None
place_of (x ∷ (y ∷ table)) a b = cond (same_symbol x y a b) (Some 0) (next_place (place_of table a b))

-- "Recognised symbols are the 118 of the IUPAC periodic table"; a space after a single letter
unfoldable pub symbols : List ℕ
symbols =
    bytes
    "H HeLiBeB C N O F NeNaMgAlSiP S ClArK CaScTiV CrMnFeCoNiCuZnGaGeAsSeBrKrRbSrY ZrNbMoTcRuRhPdAgCdInSnSbTeI XeCsBaLaCePrNdPmSmEuGdTbDyHoErTmYbLuHfTaW ReOsIrPtAuHgTlPbBiPoAtRnFrRaAcThPaU NpPuAmCmBkCfEsFmMdNoLrRfDbSgBhHsMtDsRgCnNhFlMcLvTsOg"

-- how many elements there are
abbrev pub element_count : ℕ
element_count = 118

-- the element of a symbol, counted from 0
unfoldable pub element_of : ℕ → ℕ → Option ℕ
element_of a b = place_of symbols a b

-- a symbol is recognised
unfoldable pub is_element : ℕ → ℕ → Bool
is_element a b = is_some (element_of a b)

-- "not metals are H He B C N O F Ne Si P S Cl Ar Ge As Se Br Kr Te I Xe At Rn Ts Og"
unfoldable pub not_metals : List ℕ
not_metals = bytes "H HeB C N O F NeSiP S ClArGeAsSeBrKrTeI XeAtRnTsOg"

-- a symbol is that of a metal
unfoldable pub is_metal : ℕ → ℕ → Bool
is_metal a b = is_element a b && not (is_some (place_of not_metals a b))

-- a row of the table of weights
pub record WeightRow : Type 0 where
  pub symbol : List ℕ
  pub thousandths : ℕ

abbrev weighs : String → ℕ → WeightRow
weighs symbol n = record { symbol = bytes symbol; thousandths = n }

-- "Weights in thousandths (IUPAC abridged values)"
unfoldable pub weights : List WeightRow
weights =
    weighs "H " 1008 ∷
    weighs "B " 10810 ∷
    weighs "C " 12011 ∷
    weighs "N " 14007 ∷
    weighs "O " 15999 ∷
    weighs "F " 18998 ∷
    weighs "Na" 22990 ∷
    weighs "Mg" 24305 ∷
    weighs "Al" 26982 ∷
    weighs "Si" 28085 ∷
    weighs "P " 30974 ∷
    weighs "S " 32060 ∷
    weighs "Cl" 35450 ∷
    weighs "K " 39098 ∷
    weighs "Ca" 40078 ∷
    weighs "Mn" 54938 ∷
    weighs "Fe" 55845 ∷
    weighs "Co" 58933 ∷
    weighs "Ni" 58693 ∷
    weighs "Cu" 63546 ∷
    weighs "Zn" 65380 ∷
    weighs "Br" 79904 ∷
    weighs "Ag" 107870 ∷
    weighs "I " 126900 ∷
    weighs "Pb" 207200 ∷ []

-- the weight that a table has for the symbol a b; "Other symbols have none"
unfoldable pub weight_in : List WeightRow → ℕ → ℕ → Option ℕ
weight_in [] a b = None
weight_in (w ∷ ws) a b =
    cond (same_symbol (get_or w.symbol 0 0) (get_or w.symbol 1 0) a b) (Some w.thousandths) (weight_in ws a b)

-- the weight of a symbol
unfoldable pub weight_of : ℕ → ℕ → Option ℕ
weight_of a b = weight_in weights a b

-- the largest weight of the table
abbrev pub heaviest : ℕ
heaviest = 207200
