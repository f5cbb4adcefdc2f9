pub mod Bytes
pub mod Table
pub mod Table8
pub mod Folding
pub mod WordBytes
pub mod Blocks
