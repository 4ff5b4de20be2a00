pub mod Saving
pub mod Alloc
