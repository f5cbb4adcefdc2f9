pub mod CountedElements
pub mod FirstFaults
pub mod FoundMixes
pub mod Joined
pub mod MixedGains
pub mod Plans
