pub mod Checking
pub mod Firsts
pub mod Fours
pub mod Goodness
pub mod Judged
pub mod Taking
pub mod Touching
