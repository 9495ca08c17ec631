pub mod Firsts
pub mod Sounds
pub mod Cases
pub mod LineAnswers
pub mod KeyAnswers
pub mod GradedAnswers
pub mod QuestionAnswers
pub mod FileAnswers
