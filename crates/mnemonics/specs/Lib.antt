-- What the table in code is to say.
pub mod Rows
