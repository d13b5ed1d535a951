-- What the contracts of the inner tests name.
pub mod Handed
