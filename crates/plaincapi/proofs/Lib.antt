-- Laws that the proofs of the exported calls cite.
pub mod Calls
pub mod Views
