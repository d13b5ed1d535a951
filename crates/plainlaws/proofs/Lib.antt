-- The laws.
pub mod Granted
pub mod Numbers
