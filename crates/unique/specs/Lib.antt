-- The statement that no two outcomes fit a promise.
pub mod Unique
