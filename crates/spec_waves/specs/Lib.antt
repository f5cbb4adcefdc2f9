pub mod Wave
pub mod Laws
