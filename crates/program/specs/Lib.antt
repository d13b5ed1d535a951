-- What the program promises.
pub mod Promises
