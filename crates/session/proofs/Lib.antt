-- The laws of the lines, the calls and the script.
mod Viewed
pub mod Answered
mod Spelled
mod Sparing
mod Telling
pub mod Roomy
pub mod Begun
pub mod Whole
