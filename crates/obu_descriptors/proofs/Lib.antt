pub mod ElementAnswers
pub mod Coupled
