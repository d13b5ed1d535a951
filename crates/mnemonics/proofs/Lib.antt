-- The laws of the two look-ups, and those for their callers.
mod Search
mod Places
mod Formed
pub mod Found
pub mod Field
