-- What the contracts of the tests name.
pub mod Numbers
