pub mod Answer
pub mod Progress
