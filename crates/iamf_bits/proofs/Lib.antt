pub mod LebLoop
pub mod Place
pub mod Spelled
pub mod Numbers
pub mod Puts
pub mod TextLoop
pub mod Slices
