-- The laws of the notation.
pub mod Places
pub mod Lies
pub mod Sums
pub mod Line
pub mod Text
pub mod Bounds
pub mod Short
pub mod Numbers
