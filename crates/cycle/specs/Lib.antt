pub mod Scratch
pub mod Turns
pub mod Outcomes
