-- What the contracts of an attempt on the flat memory name.
pub mod Sized
pub mod Fetches
