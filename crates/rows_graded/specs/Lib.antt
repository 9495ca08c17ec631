pub mod GradedRows
