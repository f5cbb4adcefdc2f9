pub mod Code
pub mod Content
pub mod Value
pub mod Canonical
pub mod Laws
