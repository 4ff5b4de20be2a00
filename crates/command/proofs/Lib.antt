-- What the functions' proofs share.
pub mod Heaps
pub mod Allocating
pub mod Reporting
pub mod Making
pub mod Performing
pub mod Targets
pub mod Stored
pub mod Stepping
