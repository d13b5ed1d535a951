-- What the reader's contracts name.
pub mod Trailer
pub mod Sections
pub mod Format
pub mod Hand
