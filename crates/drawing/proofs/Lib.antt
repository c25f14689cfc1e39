pub mod Pieces
pub mod LaneBars
pub mod NextPass
pub mod Drawn
pub mod Levelling
pub mod Plans
pub mod Within
