-- Laws that more than one function needs: the entries in their words, entering and walking, what the places bring, the two heaps.
pub mod Entries
pub mod Closure
pub mod Places
pub mod Entering
pub mod Heaps
pub mod Chunks
