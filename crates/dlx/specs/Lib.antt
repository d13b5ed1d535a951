-- What the contracts of the decoder, and of those that use it, name.
pub mod Asked
pub mod Registers
