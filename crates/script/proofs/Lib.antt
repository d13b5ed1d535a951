-- The laws of the readers.
pub mod Ways
pub mod Within
pub mod Spelled
pub mod Asked
