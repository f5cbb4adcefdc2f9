pub mod Searches
pub mod UnitCounts
pub mod Walks
