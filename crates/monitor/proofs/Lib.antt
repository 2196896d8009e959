pub mod CallLaws
pub mod ReplayLaws
