pub mod Faults
pub mod Header
pub mod Residual
pub mod Subframe
pub mod Frame
pub mod Equations
pub mod FrameLaws
pub mod FirstFault
