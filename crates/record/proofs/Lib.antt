pub mod Digits
mod Powers
pub mod MoveNumbers
mod Turns
mod Dimensions
mod Accepting
mod Exchanging
mod Stepping
pub mod Leading
mod Closing
mod Numbered
mod Labelling
