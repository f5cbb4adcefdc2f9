pub mod Adding
pub mod Heard
pub mod Decoded
pub mod Parameters
pub mod Playing
pub mod Needed
