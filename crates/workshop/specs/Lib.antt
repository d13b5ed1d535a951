-- What the programs `asm` and `list` promise.
pub mod Programs
