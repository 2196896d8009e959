pub mod Objects
pub mod Codes
pub mod Weights
pub mod Divisors
pub mod Meanings
