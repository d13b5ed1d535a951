-- What a session of `compare` writes and leaves.
pub mod Both
pub mod Desk
pub mod Begun
pub mod Words
pub mod Answers
pub mod Grammar
pub mod Line
pub mod Script
pub mod Compare
pub mod Never
pub mod Promises
