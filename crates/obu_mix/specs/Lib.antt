pub mod SubMixView
pub mod TagView
pub mod MixView
pub mod MixReading
pub mod SameMix
