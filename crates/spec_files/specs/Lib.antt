pub mod Pieces
pub mod MovieFile
pub mod Body
pub mod Laws
