pub mod Saves
pub mod Front
pub mod Collecting
pub mod Changed
pub mod Ending
pub mod Asking
