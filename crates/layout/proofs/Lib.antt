pub mod Tail
pub mod Room
