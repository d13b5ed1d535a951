-- What the programs share.
pub mod Said
