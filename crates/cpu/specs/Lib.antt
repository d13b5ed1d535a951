-- What the contracts of an attempt name.
pub mod Numbered
pub mod Found
pub mod Reach
pub mod Finished
