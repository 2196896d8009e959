pub mod LowestLaws
pub mod Labelled
pub mod Within
pub mod Refused
pub mod HistoryLaws
pub mod Promised
pub mod Visiting
