pub mod Dishes
pub mod Nights
pub mod Ruled
pub mod Answers
pub mod Statements
pub mod Lawful
