pub mod Longest
pub mod Told
