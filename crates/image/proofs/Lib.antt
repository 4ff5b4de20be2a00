pub mod Bounds
pub mod Scans
pub mod Fills
pub mod Packs
pub mod Parts
pub mod Zeros
pub mod Opened
pub mod Offsets
