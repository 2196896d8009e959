pub mod Pushes
pub mod Lengths
pub mod Collects
