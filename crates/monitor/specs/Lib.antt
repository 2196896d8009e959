pub mod Denials
pub mod Calls
pub mod Replays
