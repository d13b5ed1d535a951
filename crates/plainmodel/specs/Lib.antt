-- The plain engine's definitions, each module over those before it.
pub mod State
pub mod Calls
pub mod Load
pub mod Promises
pub mod Series
