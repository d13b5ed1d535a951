-- Laws that the proofs of the functions, and of those that use them, cite.
pub mod Words
