pub mod MixGainView
pub mod MixElementView
