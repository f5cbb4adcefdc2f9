pub mod Places
pub mod Signs
pub mod Spelled
