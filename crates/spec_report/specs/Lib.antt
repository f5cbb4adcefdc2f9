pub mod Report
pub mod Narrow
pub mod Laws
