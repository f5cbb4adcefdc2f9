pub mod CodedOrder
