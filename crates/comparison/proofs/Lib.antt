-- The laws of the comparison.
mod Compared
mod Agreeing
pub mod Begun
mod Asking
mod Answered
mod Called
mod Telling
pub mod Reached
pub mod Whole
pub mod Never
