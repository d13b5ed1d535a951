-- The laws of the lines.
mod Mixing
pub mod Spaced
pub mod Refused
