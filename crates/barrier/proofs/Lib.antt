-- What the functions' proofs share: a count step and the turns of the loops.
pub mod Steps
pub mod Turns
pub mod Copies
pub mod Places
