pub mod Kinds
pub mod Roles
pub mod Faults
pub mod Lines
pub mod Statements
