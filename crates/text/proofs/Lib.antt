mod Sizes
mod Copying
mod Checked
mod Conditions
mod Misnames
pub mod Firsts
pub mod Whole
pub mod Sound
pub mod Added
pub mod Limits
mod Made
mod WritingCut
mod WritingForms
mod WritingLines
mod WritingClauses
pub mod WritingWhole
mod Named
mod Steps
mod WordingForms
mod WordingLines
mod Wording
mod Exactly
