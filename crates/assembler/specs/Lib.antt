-- What the two passes over a text go by.
pub mod Passes
