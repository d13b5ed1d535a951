-- Laws that the proofs of the functions cite.
pub mod Filled
pub mod Loads
pub mod Roomy
pub mod Least
