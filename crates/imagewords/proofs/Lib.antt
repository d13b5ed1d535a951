-- Laws of an answer's words.
pub mod Numbers
