pub mod ParameterView
pub mod ElementView
pub mod ElementReading
pub mod Channels
