-- The laws that listing in code goes by.
mod Pieces
mod Rows
mod Listings
mod Calls
