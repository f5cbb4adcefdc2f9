pub mod Registers
pub mod Sixteen
