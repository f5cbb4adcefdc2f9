pub mod Front
pub mod Outcome
pub mod View
pub mod Written
pub mod Rows
pub mod Lending
