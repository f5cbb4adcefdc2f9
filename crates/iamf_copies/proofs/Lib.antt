pub mod SetsOfBytes
pub mod OneMoreEntry
