pub mod Doing
pub mod Frames
pub mod Lending
pub mod Turning
pub mod Sizes
pub mod Giving
pub mod Pushing
pub mod Cycling
