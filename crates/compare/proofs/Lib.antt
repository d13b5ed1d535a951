-- What `compare` writes.
pub mod Closed
