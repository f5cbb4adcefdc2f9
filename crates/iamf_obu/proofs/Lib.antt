pub mod TailBytes
pub mod ContentPayload
pub mod CanonicalObu
pub mod ContentParts
pub mod TypedContent
