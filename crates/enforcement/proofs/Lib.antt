pub mod Simulation
pub mod Reading
pub mod Fitting
mod Holding
mod Acting
pub mod Agreement
