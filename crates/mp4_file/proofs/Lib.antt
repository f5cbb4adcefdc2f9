pub mod Cuts
pub mod Pieces
pub mod LebBytes
pub mod UnitCounts
pub mod Boxes
