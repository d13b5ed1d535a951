-- The statements of the three demands, and of the plain engine beside them; Summary has them in one place.
pub mod Refusals
pub mod Conditions
pub mod Demand1
pub mod FlatRun
pub mod Demand2
pub mod Loaded
pub mod Least
pub mod Brought
pub mod Demand3
pub mod Each
pub mod Plain1
pub mod Same
pub mod Summary
