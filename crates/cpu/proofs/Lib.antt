-- Laws that the proofs of the functions cite.
pub mod Ways
pub mod CodePages
pub mod Finishing
