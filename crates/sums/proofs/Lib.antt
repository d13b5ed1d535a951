-- Laws of the readers of a sum.
pub mod Ways
