pub mod FormulaRows
