pub mod Shapes
pub mod Spreads
pub mod Comparisons
pub mod Ways
pub mod Crossings
