-- Laws: the model's counts of changed cells are `times`. Steps: what the functions' proofs share.
pub mod Laws
pub mod Steps
