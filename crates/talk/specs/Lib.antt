-- What is said to a script.
pub mod Script
pub mod Stretch
