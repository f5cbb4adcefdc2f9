pub mod ShapeView
pub mod DefinitionView
pub mod Adding
pub mod BlockView
pub mod BlockReading
pub mod FrameReading
