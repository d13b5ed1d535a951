-- Laws of the two passes.
mod Lines
mod Passes
