pub mod Growing
pub mod Fronts
pub mod Middles
pub mod Plainly
pub mod Sorting
pub mod Crossing
