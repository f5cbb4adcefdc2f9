pub mod Payloads
pub mod HeaderView
pub mod SameRecord
pub mod WrittenPayloads
pub mod CodecWriting
pub mod CodecView
