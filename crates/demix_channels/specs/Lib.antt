pub mod Gains
pub mod Room
