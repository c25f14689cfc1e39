pub mod Together
pub mod Bounding
pub mod TableBounds
pub mod Covering
pub mod Adding
pub mod Whole
