pub mod Lpcm
pub mod Laws
