pub mod Role
pub mod Descriptors
pub mod Profile
pub mod Units
pub mod Rules
pub mod Admitted
pub mod Samples
