pub mod Code
pub mod Shape
pub mod ParameterBlock
pub mod AudioFrame
pub mod BlockFieldLists
