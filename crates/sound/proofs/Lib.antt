-- Laws that the proofs of the functions cite.
pub mod Count
pub mod Frame
pub mod Loops
pub mod Pages
pub mod Rows
