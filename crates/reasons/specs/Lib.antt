pub mod Others
pub mod Following
pub mod TrueReasons
pub mod Words
