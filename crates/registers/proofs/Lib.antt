-- What the functions' proofs share.
pub mod Values
pub mod Roots
