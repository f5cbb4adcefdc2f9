pub mod Rows
pub mod Bytes
pub mod Ticks
pub mod Tracks
pub mod Scenes
pub mod Sums
