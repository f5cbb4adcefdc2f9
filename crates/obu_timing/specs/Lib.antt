pub mod TimingView
pub mod Writing
