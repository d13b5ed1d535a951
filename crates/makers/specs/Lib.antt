-- What makers can rely on.
pub mod PageBack
pub mod ByMnemonic
pub mod Refusals
