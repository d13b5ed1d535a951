-- The worked texts.
pub mod Texts
