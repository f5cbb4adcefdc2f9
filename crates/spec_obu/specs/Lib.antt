pub mod Kinds
pub mod Code
pub mod Header
pub mod Reading
pub mod Faults
pub mod Canonical
pub mod Listing
pub mod Laws
