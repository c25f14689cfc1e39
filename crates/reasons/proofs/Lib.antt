pub mod Lengths
pub mod Places
pub mod Steady
pub mod Agreeing
pub mod Asked
pub mod Joining
pub mod OneByOne
