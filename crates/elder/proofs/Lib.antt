pub mod Lent
pub mod Sweeps
pub mod Placing
