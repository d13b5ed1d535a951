-- The laws of a script.
pub mod Talking
pub mod Going
pub mod Whole
