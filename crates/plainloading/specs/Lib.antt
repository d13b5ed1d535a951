-- What the contracts of loading name.
pub mod Fresh
