-- The laws that reading a line in code goes by.
pub mod Then
pub mod Fields
pub mod Pieces
pub mod Names
