pub mod Directions
pub mod Slewed
pub mod Numbers
pub mod Refusals
pub mod Slewings
pub mod Following
pub mod Answers
pub mod Statements
