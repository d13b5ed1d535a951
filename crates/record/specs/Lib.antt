-- The record as words.
pub mod Words
