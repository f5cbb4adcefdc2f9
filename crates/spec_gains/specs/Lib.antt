pub mod Gains
pub mod Modes
pub mod Weights
