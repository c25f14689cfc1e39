pub mod Outcomes
pub mod Damages
