-- What the contracts of the tests name.
pub mod Count
pub mod Lean
