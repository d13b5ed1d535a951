-- What the laws speak of: named facts and statements.
pub mod Good
pub mod Mapped
pub mod Entries
pub mod Demand2
pub mod Named
pub mod Formed
pub mod Over
pub mod Shift
