pub mod Headings
pub mod Kinds
pub mod Looking
pub mod Needs
pub mod Numbered
pub mod Trials
pub mod Ways
