pub mod Answering
pub mod TagsOfTail
pub mod WrittenMix
