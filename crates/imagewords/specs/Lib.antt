-- What the contract of the reader's call names.
pub mod Image
