pub mod Rounding
pub mod Suiting
pub mod Following
pub mod Lawful
pub mod Units
pub mod Prices
pub mod Sums
pub mod Statements
