-- The lines that answer the lines of a script.
pub mod Fnv
pub mod Lines
pub mod Calls
