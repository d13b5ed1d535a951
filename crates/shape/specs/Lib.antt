-- What the contract of the inner test names.
pub mod Lengths
