pub mod Answers
pub mod Questions
