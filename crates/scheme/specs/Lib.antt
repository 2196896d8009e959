pub mod Names
pub mod Models
pub mod Declarations
pub mod Tables
pub mod Drafts
pub mod Sizes
pub mod Counts
pub mod WellFormed
