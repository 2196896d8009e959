mod Named
mod Spelled
mod Readings
mod Legible
pub mod Printed
