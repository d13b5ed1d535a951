-- Laws of the record's words.
pub mod Words
