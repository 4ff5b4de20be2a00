pub mod Taking
pub mod Clearing
pub mod Filling
pub mod Doors
