-- What a session of `series` writes and leaves.
pub mod Answers
pub mod Desk
pub mod Ready
pub mod Script
pub mod Series
pub mod Promises
