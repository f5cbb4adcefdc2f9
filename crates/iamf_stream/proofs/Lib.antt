pub mod Fronts
pub mod Passing
pub mod Walking
pub mod Pieces
pub mod Checking
pub mod Fed
