-- Laws that the proofs of the functions cite.
pub mod Parts
pub mod Tests
pub mod Accepted
