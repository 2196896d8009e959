pub mod Names
pub mod Moves
pub mod Answers
pub mod Reports
pub mod Readings
pub mod Printed
