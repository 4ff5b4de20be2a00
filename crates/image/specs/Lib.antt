pub mod Places
pub mod Answers
pub mod Conditions
pub mod Tiling
pub mod Laid
