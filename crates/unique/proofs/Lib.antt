-- The theorem that no two outcomes fit a promise.
pub mod Unique
