-- What it means that a list of operators, with the product, is a group (document 02, No. 5): "An accepted list is proved to be a group: inverses are there too."
-- Assumes nothing.
use Rattle.std.specs.Prelude.{◌≡◌, List, ℤ}
use Rattle.symmetry_operators.specs.Operator.{Row, product, identity}
use Rattle.symmetry_operators.specs.Wording.{In}

-- an inverse of r in the list, on both sides
pub record Inverse (l : List (Row ℤ)) (r : Row ℤ) : Type 0 where
  pub row : Row ℤ
  pub inside : In l row
  pub right : product r row ≡ identity
  pub left : product row r ≡ identity

pub record Group (l : List (Row ℤ)) : Type 0 where
  pub closed : (r s : Row ℤ) → In l r → In l s → In l (product r s)
  pub associative : (q r s : Row ℤ) → In l q → In l r → In l s → product (product q r) s ≡ product q (product r s)
  pub identity_inside : In l identity
  pub identity_left : (r : Row ℤ) → In l r → product identity r ≡ r
  pub identity_right : (r : Row ℤ) → In l r → product r identity ≡ r
  pub inverse : (r : Row ℤ) → In l r → Inverse l r
