-- Document 01 as definitions, in its order. Everything that a reader has to believe stands in this folder.
pub mod Lists
pub mod Res
pub mod Reach
pub mod Records
pub mod Barrier
pub mod Heap
pub mod Image
pub mod Nursery
pub mod Elder
pub mod Collector
pub mod Calls
pub mod Figure
pub mod Command
pub mod Run
pub mod Listing
pub mod Demand
