pub mod FieldLaws
pub mod FaultLaws
pub mod HeaderLaws
pub mod OneHeader
pub mod CanonicalLaws
pub mod OneOutcome
pub mod PlainLaws
pub mod PlainTests
