-- Laws that the proof of the run cites.
pub mod Running
pub mod Walking
