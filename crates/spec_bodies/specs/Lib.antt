pub mod Spelled
pub mod SequenceBody
pub mod SequenceFile
pub mod Laws
