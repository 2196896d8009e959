pub mod Parties
pub mod Predicates
pub mod Actions
pub mod Enforcement
pub mod Relation
pub mod Coded
pub mod Meanings
