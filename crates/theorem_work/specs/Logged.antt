-- The records of a log that name an item, read off its bytes (document 01, "The log"; document 02, No. 7: "its records in the used log"; No. 9: "The record's
-- bench tells the sheet, and No. 7 counts its own sheet's records").
-- Assumes nothing.
use Rattle.std.specs.Prelude.{ℕ, zero, suc, Bool, cond, ◌&&◌, List, [], ◌∷◌, eqb, length, drop}
use Rattle.desk_log.specs.Record.{length_told, bench_told, item_told}
use Rattle.theorem_work.specs.Work.{on_sheet}

-- the record that the bytes begin with names that item of that sheet
abbrev pub names_in : ℕ → ℕ → List ℕ → Bool
names_in sheet item bs = on_sheet sheet (bench_told bs) && eqb item (item_told bs)

-- how many of the records do; each begins where the one before it ends, and n of them at most are looked at
abbrev pub naming_first : ℕ → ℕ → ℕ → List ℕ → ℕ
naming_first zero sheet item bs = 0
naming_first (suc n) sheet item [] = 0
naming_first (suc n) sheet item (b ∷ bs) =
    let rest = naming_first n sheet item (drop (length_told (b ∷ bs)) (b ∷ bs)) in
    cond (names_in sheet item (b ∷ bs)) (suc rest) rest

-- of all: there are no more records than bytes
abbrev pub records_naming : ℕ → ℕ → List ℕ → ℕ
records_naming sheet item bs = naming_first (length bs) sheet item bs
