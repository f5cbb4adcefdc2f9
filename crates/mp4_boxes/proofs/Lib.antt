pub mod BigEndianWords
pub mod Counted
pub mod Standing
