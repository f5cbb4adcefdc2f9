pub mod GainLemmas
pub mod ModeLemmas
