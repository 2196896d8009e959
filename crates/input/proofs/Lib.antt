mod Filling
pub mod Capped
pub mod InTurn
