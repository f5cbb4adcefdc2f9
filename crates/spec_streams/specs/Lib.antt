pub mod Front
pub mod Settled
pub mod Laws
