pub mod Following
pub mod Bridge
pub mod Stations
pub mod Finite
pub mod More
pub mod Apart
pub mod Rounding
pub mod ByRule
