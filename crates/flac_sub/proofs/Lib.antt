pub mod Halves
pub mod TwoRows
pub mod WholeFrames
