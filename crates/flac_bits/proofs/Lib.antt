pub mod TopBits
pub mod LeadingZeros
pub mod EightBytes
pub mod LastBytes
pub mod FieldsAt
pub mod Moved
pub mod RiceCodes
