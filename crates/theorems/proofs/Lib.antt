-- Laws of the definitions' own parts, then the heap's, then the theorems: Image (encode and decode), Kept (what calls leave),
-- Demand (demand 3), Reading (command files), Rounding, Figure and Printed (a figure and its text), Numbered (refusals), Doors and Files
-- (demand 3 for the doors in use and for command files).
pub mod Res
pub mod Lists
pub mod Reach
pub mod Contents
pub mod Sort
pub mod Barrier
pub mod Masks
pub mod Tiles
pub mod Members
pub mod Elder
pub mod Moves
pub mod Change
pub mod Collect
pub mod Calls
pub mod Cells
pub mod Regions
pub mod Image
pub mod Kept
pub mod Demand
pub mod Texts
pub mod Reading
pub mod Rounding
pub mod Figure
pub mod Printed
pub mod Does
pub mod Apart
pub mod Parts
pub mod Numbered
pub mod Doors
pub mod Program
pub mod Following
pub mod Files
