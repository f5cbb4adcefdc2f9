pub mod Lists
pub mod Mapping
pub mod Counts
