mod SceneFloors
pub mod Steps
pub mod Subblocks
pub mod GainBounds
pub mod Samples
pub mod GainsOver
pub mod Frames
pub mod TrackSteps
