-- What each way out of a program keeps of its promise.
pub mod Works
