pub mod LoudnessView
