pub mod Lines
pub mod LinesView
pub mod Standing
pub mod TallyView
pub mod Text
