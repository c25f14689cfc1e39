pub mod Worths
pub mod Needs
pub mod Alike
pub mod Stations
pub mod OnePass
pub mod ByRules
pub mod Bounds
pub mod Searched
