pub mod Rows
pub mod Gains
pub mod PlayedElements
pub mod Mixing
pub mod Reserving
pub mod Playback
pub mod Ending
