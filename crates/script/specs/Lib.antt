-- What a script's line means.
pub mod Vocabulary
pub mod Table
pub mod Parts
pub mod Grammar
pub mod Keeping
pub mod Promises
