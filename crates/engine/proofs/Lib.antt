pub mod Leading
pub mod Ways
pub mod Trying
pub mod Tallies
pub mod Mapping
pub mod Ruling
