pub mod Sums
pub mod Cells
pub mod Answers
pub mod Writes
pub mod Crossing
pub mod Counted
