pub mod BlockTests
pub mod DemixingView
