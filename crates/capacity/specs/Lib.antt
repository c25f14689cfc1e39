pub mod Order
pub mod Peaks
pub mod Alone
pub mod Assignments
pub mod Statements
