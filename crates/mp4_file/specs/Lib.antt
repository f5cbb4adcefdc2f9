pub mod Slices
pub mod Views
