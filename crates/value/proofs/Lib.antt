-- What the functions' proofs share, and the round trips.
pub mod Spelling
pub mod RoundTrip
