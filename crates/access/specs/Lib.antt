pub mod Access
pub mod Counting
