pub mod Ones
pub mod Windows
pub mod Places
pub mod Residuals
