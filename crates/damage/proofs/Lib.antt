pub mod Lines
pub mod Judging
pub mod Flipping
