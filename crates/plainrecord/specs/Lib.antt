-- The plain engine's record as words.
pub mod Words
