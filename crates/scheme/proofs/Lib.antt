mod Search
pub mod Lists
mod Last
mod Fits
