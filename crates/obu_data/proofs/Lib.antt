pub mod Counts
pub mod Lists
pub mod Index
pub mod Timed
pub mod Blocks
pub mod Frames
