pub mod ValueRole
pub mod Reading
pub mod Parts
pub mod Narrow
pub mod Laws
