pub mod Replying
pub mod Numbers
