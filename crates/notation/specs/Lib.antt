-- The makers' notation: the table of mnemonics, a line, a text, a listing, and the two calls.
pub mod Table
pub mod Answers
pub mod Sums
pub mod Line
pub mod Text
pub mod Listing
pub mod Calls
pub mod Promises
