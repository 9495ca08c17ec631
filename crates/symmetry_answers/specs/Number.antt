-- The numbers of the answers of the check of a list of symmetry operators (document 02, No. 5).
-- Assumes nothing.
use Rattle.std.specs.Prelude.{ℕ, Result, Ok, Err}
use Rattle.symmetry_answers.specs.declared.ListRefusal.{ListRefusal}
use Rattle.symmetry_answers.specs.declared.ListRefusal.TheVariants.{NoList, BadDeterminant, NoIdentity, EqualRows, ProductMissing}

-- "Refusals: 13 text, 14 determinant, 15 no identity, 16 equal rows, 17 a product missing"; "more than 192 rows, a part row or a number out of range, 13"; 0 where none is given
abbrev pub list_number : Result ℕ ListRefusal → ℕ
list_number (Ok pairs) = 0
list_number (Err NoList) = 13
list_number (Err BadDeterminant) = 14
list_number (Err NoIdentity) = 15
list_number (Err EqualRows) = 16
list_number (Err (ProductMissing pairs)) = 17
