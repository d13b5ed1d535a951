pub mod Appending
mod Stray
pub mod Digits
mod Grouped
pub mod Fronts
pub mod Numbers
pub mod Pairs
pub mod Words
pub mod Bounds
pub mod Finding
