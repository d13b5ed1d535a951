-- Laws that the proofs of the functions cite.
pub mod Where
pub mod Parts
pub mod Transfers
pub mod Leans
