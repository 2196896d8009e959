pub mod Digits
pub mod Weighing
mod Dividing
mod Making
mod Summing
