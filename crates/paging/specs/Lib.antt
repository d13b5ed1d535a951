-- What the contracts of the handler name.
pub mod Ready
