-- Laws that more than one function needs.
pub mod Entries
