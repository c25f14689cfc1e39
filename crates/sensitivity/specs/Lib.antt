pub mod Needing
pub mod PassRules
pub mod Answers
pub mod Statements
