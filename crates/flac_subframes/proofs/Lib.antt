pub mod WrittenRows
pub mod Samples
pub mod VerbatimSamples
pub mod Partitions
pub mod Predictions
pub mod Products
pub mod PredictedSubframes
pub mod WholeSubframes
