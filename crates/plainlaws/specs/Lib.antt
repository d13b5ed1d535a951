-- What the plain engine's checks accept, as named facts.
pub mod Good
