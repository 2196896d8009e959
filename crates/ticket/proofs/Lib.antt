mod Rides
mod Verdicts
