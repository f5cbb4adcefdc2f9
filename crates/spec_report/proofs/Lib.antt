pub mod NarrowReports
pub mod Escapes
pub mod Examples
