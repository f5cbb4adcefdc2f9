pub mod Waiting
pub mod Front
pub mod Standing
pub mod Steps
pub mod CheckerView
pub mod Feeding
