pub mod Answers
pub mod State
pub mod Steps
