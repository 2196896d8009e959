pub mod Appending
pub mod Apart
