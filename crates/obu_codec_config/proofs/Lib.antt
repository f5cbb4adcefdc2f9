pub mod Answering
pub mod Written
pub mod Walking
pub mod FixedSpelling
pub mod FlacBytes
pub mod CodecReading
pub mod ReadingBack
