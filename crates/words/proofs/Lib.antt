mod Numbers
pub mod Pieces
mod Searches
mod Shapes
pub mod Lengths
pub mod Turns
pub mod Joins
