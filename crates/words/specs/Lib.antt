pub mod Outcomes
pub mod Positions
pub mod Faults
pub mod Cuts
pub mod Joining
pub mod Forms
pub mod Tokens
pub mod Plain
