-- What the contracts of the transfers name.
pub mod Within
