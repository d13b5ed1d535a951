-- What a session of `plain` writes and leaves.
pub mod Table
pub mod Grammar
pub mod Answers
pub mod Desk
pub mod Ready
pub mod Script
pub mod Series
pub mod Promises
