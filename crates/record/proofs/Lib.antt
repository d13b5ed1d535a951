-- Laws of the record's words.
pub mod Parts
pub mod Words
