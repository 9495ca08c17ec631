pub mod First
pub mod Helper
pub mod Answers
pub mod Examples
pub mod DeskAnswers
