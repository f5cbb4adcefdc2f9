pub mod SureFaults
pub mod OwnFaults
pub mod Settling
