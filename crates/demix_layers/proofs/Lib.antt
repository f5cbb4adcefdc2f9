pub mod StepLemmas
pub mod WalkLemmas
pub mod Floors
pub mod WrittenRow
pub mod WholeScenes
