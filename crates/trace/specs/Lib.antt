pub mod Words
pub mod Entered
pub mod Leads
pub mod Traces
