-- What the two passes of the lister go by.
pub mod Words
