-- What the contract of the run names.
pub mod Engine
