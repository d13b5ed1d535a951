-- The laws of the lines, the calls and the script.
mod Reading
mod Viewed
mod Answered
mod Spelled
mod Telling
mod Begun
pub mod Roomy
pub mod Whole
