pub mod Within
pub mod Origins
pub mod Scaled
pub mod Quiet
pub mod Ratios
pub mod Pairs
pub mod Kernel
