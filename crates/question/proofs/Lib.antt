-- Passing: what the exit of a `?` answers.
pub mod Passing
