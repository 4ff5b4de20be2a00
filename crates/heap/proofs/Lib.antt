-- What the functions' proofs share.
pub mod Reading
pub mod Printing
