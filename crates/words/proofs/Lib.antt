-- Laws that the proofs of the functions cite.
pub mod Copies
pub mod Compared
pub mod Numbers
