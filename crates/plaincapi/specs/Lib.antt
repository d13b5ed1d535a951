-- What the contracts of the exported calls name.
pub mod Calls
pub mod Promises
