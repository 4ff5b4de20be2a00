-- Standing: what stands at a place, and the commands from there on. Starting: before the first command. Advancing: one command and
-- its line. Filling: the loop over them. Printing: what all of it comes to.
pub mod Standing
pub mod Starting
pub mod Advancing
pub mod Filling
pub mod Printing
