-- What the contracts of the arithmetic name.
pub mod Relations
